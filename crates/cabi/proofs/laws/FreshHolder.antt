-- A fresh holder whose bytes find no room.
use Rattle.std.specs.Prelude.{◌≡◌, List, ℕ, ◌<◌}
use Rattle.std.proofs.Math.Path.{refl}
use Rattle.std.proofs.Math.ListN.{length}
use Rattle.std.proofs.lemmas.Bool.{lt-leb}
use Rattle.strings.specs.Refusals.{refusal_number}
use Rattle.strings.specs.Results.{refusal}
use Rattle.strings.specs.declared.Refusal.TheVariants.{BufferTooShort}
use Rattle.layout.specs.Layout.{holder_size}
use Rattle.cabi.specs.Packing.{packed}
use Rattle.cabi.specs.Calls.{holder_made}

pub fresh-short : (s : List ℕ) {r : ℕ} → r ≡ packed (refusal (refusal_number BufferTooShort)) → length s < holder_size → record { result = r; state = s } ≡ holder_made s
unfolding holder_made packed
fresh-short s p h = rw (p, lt-leb holder_size (length s) h) refl
