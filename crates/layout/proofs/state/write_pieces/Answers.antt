use Rattle.layout.proofs.Stores.{piece-more}
use Rattle.layout.proofs.state.write_pieces.Goals as goal

pub loop-i-preserved : goal.loop-i-preserved
loop-i-preserved c = piece-more _ _ _ c.args.st.pieces 52 c.loop-i.i c.loop-i.invariant c.write_piece.ensures
