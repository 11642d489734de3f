-- The bits of a range of a packed string.
use Rattle.std.specs.Prelude.{Bool, List}
use Rattle.strings.specs.Bits.{range}
use Rattle.strings.specs.declared.bit_range.BitRange.{BitRange}

abbrev pub bits : BitRange → List Bool
bits r = range r.bytes.now r.start r.len
