-- `codes::read_marker` meets its contract: one law of specs/laws/MarkerEntryLaws.antt for each return. Assumes nothing.
use mathlib.Core.Path.{sym, ap, ◌∙◌}
use Prim.Native.Nat.{ℕ}
use Rattle.strings.specs.Bits.{range}
use Rattle.strings.specs.Results.{value}
use Rattle.codes.specs.Entries.{repair_left}
use Rattle.codes.specs.Markers.{read_marker}
use Rattle.codes.specs.laws.EntryLaws.{whole_part}
use Rattle.codes.specs.laws.MarkerEntryLaws.{received-range-is, received-apart, read-bad-string, read-out-of-range, read-too-short, read-value}
use Rattle.codes.proofs.markers.read_marker.Goals as goal

pub returns-then-not-keeps_string_rule : goal.returns-then-not-keeps_string_rule
returns-then-not-keeps_string_rule c = let args = c.args in
    read-bad-string args.s.now args.bits args.n args.a args.out.now (sym c.if-not-keeps_string_rule.ensures)

pub returns-then-not-keeps_received_range : goal.returns-then-not-keeps_received_range
returns-then-not-keeps_received_range c = let args = c.args in
    read-out-of-range args.s.now args.bits args.n args.a args.out.now (sym c.if-not-keeps_string_rule.ensures) (sym c.if-not-keeps_received_range.ensures)

pub returns-then-out-bytes_for : goal.returns-then-out-bytes_for
returns-then-out-bytes_for c = let count = c.message_bits in
    let args = c.args in
    read-too-short args.s.now args.bits args.n args.a args.out.now (sym c.if-not-keeps_string_rule.ensures) (sym c.if-not-keeps_received_range.ensures) count.result count.ensures (rw c.bytes_for.ensures at c.if-out-bytes_for.true)

pub returns-then-bits-n : goal.returns-then-bits-n
returns-then-bits-n c =
    let args = c.args in
    c.read_same.ensures
    ∙ ap (λ (x : ℕ). repair_left args.out.now (value (read_marker x args.a (range args.s.now 0 args.bits)))) c.if-bits-n.true
    ∙ read-value args.s.now args.bits args.n args.a args.out.now (sym c.if-not-keeps_string_rule.ensures) (sym c.if-not-keeps_received_range.ensures) c.message_bits.result c.message_bits.ensures (rw c.bytes_for.ensures at c.if-out-bytes_for.false)

pub returns : goal.returns
returns c = let args = c.args in c.read_repaired.ensures ∙ read-value args.s.now args.bits args.n args.a args.out.now (sym c.if-not-keeps_string_rule.ensures) (sym c.if-not-keeps_received_range.ensures) c.message_bits.result c.message_bits.ensures (rw c.bytes_for.ensures at c.if-out-bytes_for.false)

pub invariant_of-received : goal.invariant_of-received
invariant_of-received c = record { part = whole_part c.args.s.now c.args.bits (sym c.if-not-keeps_string_rule.ensures) }

pub invariant_of-received-2 : goal.invariant_of-received-2
invariant_of-received-2 c = record { part = whole_part c.args.s.now c.args.bits (sym c.if-not-keeps_string_rule.ensures) }

pub invariant_of-read_repaired : goal.invariant_of-read_repaired
invariant_of-read_repaired c = let args = c.args in
    let limits = received-range-is args.n args.a args.bits (sym c.if-not-keeps_received_range.ensures) in
    record { few = limits.words.few }

pub read_repaired-requires-clause-one_apart : goal.read_repaired-requires-clause-one_apart
read_repaired-requires-clause-one_apart c = let args = c.args in
    received-apart args.n args.a args.bits (received-range-is args.n args.a args.bits (sym c.if-not-keeps_received_range.ensures)) c.if-bits-n.false
