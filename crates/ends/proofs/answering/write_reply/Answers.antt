use Rattle.ends.proofs.code.HolderCodeLaws.{within-as, asked-part}
use Rattle.ends.proofs.code.HolderCodeLaws.{size-replied, hash-replied, syndrome-replied, bits-replied, burst-replied}
use Rattle.ends.proofs.answering.write_reply.Goals as goal

pub piece_of-requires : goal.piece_of-requires
piece_of-requires c = asked-part _ _ c.requires.string (within-as _ c.requires.within c.in-AskHash.is)

pub piece_of-requires-in-AskSyndrome : goal.piece_of-requires-in-AskSyndrome
piece_of-requires-in-AskSyndrome c = asked-part _ _ c.requires.string (within-as _ c.requires.within c.in-AskSyndrome.is)

pub piece_of-requires-in-AskBits : goal.piece_of-requires-in-AskBits
piece_of-requires-in-AskBits c = asked-part _ _ c.requires.string (within-as _ c.requires.within c.in-AskBits.is)

pub piece_of-requires-in-AskBurst : goal.piece_of-requires-in-AskBurst
piece_of-requires-in-AskBurst c = asked-part _ _ c.requires.string (within-as _ c.requires.within c.in-AskBurst.is).range

pub returns-in-AskOpen : goal.returns-in-AskOpen
returns-in-AskOpen c = let a = c.args in size-replied a.x.now a.n a.key.h a.key.key a.reply.now c.in-AskOpen.is c.write_size.ensures

pub returns-in-AskHash : goal.returns-in-AskHash
returns-in-AskHash c = let a = c.args in
    let asked = c.in-AskHash.is in
    hash-replied a.x.now a.n a.key.h a.key.key a.reply.now c.requires.within asked c.piece_of.ensures c.hash.ensures c.write_hash.ensures

pub returns-in-AskSyndrome : goal.returns-in-AskSyndrome
returns-in-AskSyndrome c = let a = c.args in
    let asked = c.in-AskSyndrome.is in
    syndrome-replied a.x.now a.n a.key.h a.key.key a.reply.now c.requires.within asked c.piece_of-in-AskSyndrome.ensures c.write_syndrome_reply.ensures

pub returns-in-AskBits : goal.returns-in-AskBits
returns-in-AskBits c = let a = c.args in
    let asked = c.in-AskBits.is in
    bits-replied a.x.now a.n a.key.h a.key.key a.reply.now c.requires.within asked c.piece_of-in-AskBits.ensures c.write_bits.ensures

pub returns-in-AskBurst : goal.returns-in-AskBurst
returns-in-AskBurst c = let a = c.args in
    let asked = c.in-AskBurst.is in
    burst-replied a.x.now a.n a.key.h a.key.key a.reply.now c.requires.within asked c.piece_of-in-AskBurst.ensures c.write_burst_reply.ensures
