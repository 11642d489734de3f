use native.Mathlib.Omega.{arith}
use Rattle.ends.specs.code.RebuilderCallLaws.{heard-size, heard-hash, heard-syndrome, heard-burst, heard-bits, burst-cols, cols-few, burst-answered, burst-said, bits-long, bits-said, enough-for, enough-is, enough-bits, whole-small}
use Rattle.ends.proofs.rebuilding.take.Goals as goal

pub take_size-requires : goal.take_size-requires
take_size-requires c = let e = c.in-IsSize.is in
    let r = enough-is c.args.st _ _ (enough-for c.args.st _ _ _ _ c.requires.due _ c.requires.by_index.1 e) in
    record { opening = heard-size c.args.st _ _ _ _ c.requires.due _ e _ r.1; n_in_bounds = r.0 }

pub new-requires : goal.new-requires
new-requires c = record { acting = (heard-hash c.args.st _ _ _ _ c.requires.due _ c.in-IsHash.is 8 (omega arith)).0; copy = c.requires.ybits_bound }

pub take_hash-requires : goal.take_hash-requires
take_hash-requires c = let e = c.in-IsHash.is in
    let r = enough-is c.args.st _ _ (enough-for c.args.st _ _ _ _ c.requires.due _ c.requires.by_index.1 e) in
    record { question_room = r.1; string_room = rw c.new.ensures.st (enough-bits _ _ r.0); stage_value = rw c.new.ensures.st (heard-hash c.args.st _ _ _ _ c.requires.due _ e _ r.1).1 }

pub new-requires-in-IsSyndrome : goal.new-requires-in-IsSyndrome
new-requires-in-IsSyndrome c = record { acting = (heard-syndrome c.args.st _ _ _ _ c.requires.due _ _ c.in-IsSyndrome.is 8 (omega arith)).0; copy = c.requires.ybits_bound }

pub take_syndrome-requires : goal.take_syndrome-requires
take_syndrome-requires c = let e = c.in-IsSyndrome.is in
    let r = enough-is c.args.st _ _ (enough-for c.args.st _ _ _ _ c.requires.due _ c.requires.by_index.1 e) in
    record { question_room = r.1; string_room = rw c.new-in-IsSyndrome.ensures.st (enough-bits _ _ r.0); repair_due = rw c.new-in-IsSyndrome.ensures.st (heard-syndrome c.args.st _ _ _ _ c.requires.due _ _ e _ r.1).1 }

pub overflow_cast-msg : goal.overflow_cast-msg
overflow_cast-msg c = record { fits = whole-small c.args.st _ 8 (heard-bits c.args.st _ _ _ _ c.requires.due _ c.in-IsBits.is 8 (omega arith)).0 }

pub take_bits-requires : goal.take_bits-requires
take_bits-requires c = let e = c.in-IsBits.is in
    let r = enough-is c.args.st _ _ (enough-for c.args.st _ _ _ _ c.requires.due _ c.requires.by_index.1 e) in
    record { bits_due = (heard-bits c.args.st _ _ _ _ c.requires.due _ e _ r.1).0; lending = record { copy = c.requires.ybits_bound; text = enough-bits _ _ r.0 }; st_bound = bits-long c.args.st _ _ _ _ c.requires.due _ e }

pub burst_syndromes-requires : goal.burst_syndromes-requires
burst_syndromes-requires c =
    rw c.columns.ensures (record { b_bound = cols-few c.args.st _ _ _ _ c.requires.due; burst_answered = burst-answered c.args.st _ _ _ _ c.requires.due _ c.in-IsBurst.is })

pub new-requires-in-IsBurst : goal.new-requires-in-IsBurst
new-requires-in-IsBurst c = record { acting = (heard-burst c.args.st _ _ _ _ c.requires.due _ c.in-IsBurst.is 8 (omega arith)).0; copy = c.requires.ybits_bound }

pub take_burst-requires : goal.take_burst-requires
take_burst-requires c = let e = c.in-IsBurst.is in
    let r = enough-is c.args.st _ _ (enough-for c.args.st _ _ _ _ c.requires.due _ c.requires.by_index.1 e) in
    record { question_room = r.1; string_room = rw c.new-in-IsBurst.ensures.st (enough-bits _ _ r.0); burst_due = rw c.new-in-IsBurst.ensures.st (heard-burst c.args.st _ _ _ _ c.requires.due _ e _ r.1).1; enough = (let b = burst-cols c.args.st _ _ _ _ c.requires.due _ e in let f = cols-few c.args.st _ _ _ _ c.requires.due in rw c.new-in-IsBurst.ensures.st (omega arith)) }

pub returns-in-IsBits : goal.returns-in-IsBits
returns-in-IsBits c = bits-said c.args.st _ _ _ _ c.requires.due _ c.in-IsBits.is _ _ _ c.take_bits.ensures

pub returns-in-IsBurst : goal.returns-in-IsBurst
returns-in-IsBurst c = let n = c.new-in-IsBurst.ensures in
    let x = c.take_burst.ensures in
    burst-said c.args.st _ _ _ _ c.requires.due _ c.in-IsBurst.is c.burst_syndromes.result (rw c.columns.ensures at c.burst_syndromes.ensures) _ _ _ (rw (n.st, n.y, n.size) at x)
