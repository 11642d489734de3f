-- `codes::build_marker` meets its contract: one law of specs/laws/MarkerEntryLaws.antt for each return. Assumes nothing.
use mathlib.Core.Path.{sym, ap, ◌∙◌}
use Prim.Native.Nat.{ℕ}
use Rattle.strings.specs.Bits.{range, pack, at_front}
use Rattle.codes.specs.Markers.{marker}
use Rattle.codes.specs.laws.EntryLaws.{whole_part}
use Rattle.codes.specs.laws.MarkerEntryLaws.{marker-range-is, build-bad-string, build-out-of-range, build-message-length, build-too-short, build-done}
use Rattle.codes.proofs.markers.build_marker.Goals as goal

pub pack_marker-requires-clause-a_le_n : goal.pack_marker-requires-clause-a_le_n
pack_marker-requires-clause-a_le_n c = (marker-range-is c.args.n c.args.a (sym c.if-not-keeps_marker_range.ensures)).most

pub pack_marker-requires-clause-m_len : goal.pack_marker-requires-clause-m_len
pack_marker-requires-clause-m_len c = c.if-bits-message_bits.false ∙ c.message_bits.ensures

pub invariant_of-message : goal.invariant_of-message
invariant_of-message c = record { part = whole_part c.args.m.now c.args.bits (sym c.if-not-keeps_string_rule.ensures) }

pub returns-then-not-keeps_string_rule : goal.returns-then-not-keeps_string_rule
returns-then-not-keeps_string_rule c = let args = c.args in
    build-bad-string args.m.now args.bits args.n args.a args.out.now (sym c.if-not-keeps_string_rule.ensures)

pub returns-then-not-keeps_marker_range : goal.returns-then-not-keeps_marker_range
returns-then-not-keeps_marker_range c = let args = c.args in
    build-out-of-range args.m.now args.bits args.n args.a args.out.now (sym c.if-not-keeps_string_rule.ensures) (sym c.if-not-keeps_marker_range.ensures)

pub returns-then-bits-message_bits : goal.returns-then-bits-message_bits
returns-then-bits-message_bits c = let count = c.message_bits in
    let args = c.args in
    build-message-length args.m.now args.bits args.n args.a args.out.now (sym c.if-not-keeps_string_rule.ensures) (sym c.if-not-keeps_marker_range.ensures) count.result count.ensures c.if-bits-message_bits.true

pub returns-then-out-bytes_for : goal.returns-then-out-bytes_for
returns-then-out-bytes_for c =
    let count = c.message_bits in
    let args = c.args in
    build-too-short args.m.now args.bits args.n args.a args.out.now (sym c.if-not-keeps_string_rule.ensures) (sym c.if-not-keeps_marker_range.ensures) count.result count.ensures c.if-bits-message_bits.false (rw c.bytes_for.ensures at c.if-out-bytes_for.true)

pub invariant_of-pack_marker : goal.invariant_of-pack_marker
invariant_of-pack_marker c = record { few = (marker-range-is c.args.n c.args.a (sym c.if-not-keeps_marker_range.ensures)).few }

pub returns : goal.returns
returns c =
    let count = c.message_bits in
    let args = c.args in
    let is = c.if-bits-message_bits.false ∙ count.ensures in
    let word = c.pack_marker.ensures ∙ ap (λ (x : ℕ). at_front (pack (marker args.n args.a (range args.m.now 0 x))) args.out.now) is in
    build-done args.m.now args.bits args.n args.a args.out.now (sym c.if-not-keeps_string_rule.ensures) (sym c.if-not-keeps_marker_range.ensures) count.result count.ensures c.if-bits-message_bits.false (rw c.bytes_for.ensures at c.if-out-bytes_for.false) _ word _
