-- The test of the settings' limits and the statement of them say the same.
use Rattle.std.specs.Prelude.{◌≡◌, refl, true, ◌&&◌, leb}
use Rattle.std.proofs.Common.{arith, leb-true, le-leb}
use Rattle.strings.specs.SettingLimits.{between, Limits, within_limits}
use Rattle.strings.specs.declared.settings.Settings.{Settings}
use Rattle.strings.specs.laws.Tests.{both}

pub limits-is : (S : Settings) → within_limits S ≡ true → Limits S
unfolding within_limits
limits-is S e =
    let a = both (between 8 S.m 64) (between 8 S.h 32 && (between 1 S.k 8 && (between 1 S.key 4294967295 && leb S.ceiling 16384))) e in
    let b = both (between 8 S.h 32) (between 1 S.k 8 && (between 1 S.key 4294967295 && leb S.ceiling 16384)) a.1 in
    let c = both (between 1 S.k 8) (between 1 S.key 4294967295 && leb S.ceiling 16384) b.1 in
    let d = both (between 1 S.key 4294967295) (leb S.ceiling 16384) c.1 in
    let m = both (leb 8 S.m) (leb S.m 64) a.0 in
    let h = both (leb 8 S.h) (leb S.h 32) b.0 in
    let k = both (leb 1 S.k) (leb S.k 8) c.0 in
    let y = both (leb 1 S.key) (leb S.key 4294967295) d.0 in
    let y1 = leb-true S.key 4294967295 y.1 in
    record {
      m-least = leb-true 8 S.m m.0;
      m-most = leb-true S.m 64 m.1;
      h-least = leb-true 8 S.h h.0;
      h-most = leb-true S.h 32 h.1;
      k-least = leb-true 1 S.k k.0;
      k-most = leb-true S.k 8 k.1;
      key-least = leb-true 1 S.key y.0;
      key-most = omega arith;
      ceiling-most = leb-true S.ceiling 16384 d.1;
    }

pub is-limits : (S : Settings) → Limits S → within_limits S ≡ true
unfolding within_limits
is-limits S L =
    let k = L.key-most in
    rw (
      le-leb 8 S.m L.m-least,
      le-leb S.m 64 L.m-most,
      le-leb 8 S.h L.h-least,
      le-leb S.h 32 L.h-most,
      le-leb 1 S.k L.k-least,
      le-leb S.k 8 L.k-most,
      le-leb 1 S.key L.key-least,
      le-leb S.key 4294967295 (omega arith),
      le-leb S.ceiling 16384 L.ceiling-most,
    ) refl
