-- The helper of a reference is one of the helpers.
use Rattle.std.proofs.Common.{◌≡◌, ℕ, suc, ◌+◌, List, [], ◌∷◌, refl, sym, ap, arith, ◌∙◌, Bool, true, false, ◌&&◌, if◌then◌else◌, Some}
use Rattle.std.specs.Prelude.{nat_eq, slice_get}
use Rattle.av_flat.specs.declared.timed.Helper.{Helper}
use Rattle.av_space.specs.Taps.{Pipeline, helper_from}
use Rattle.av_base.proofs.Truths.{both}
use Rattle.av_base.proofs.Lists.{some_is}

pub equal : (m n : ℕ) → nat_eq m n ≡ true → m ≡ n
equal m n h = grind arith

-- the helper that is found
pub record IsFound (hs : List Helper) (j place piece site : ℕ) (h : Pipeline) : Type 0 where
  pub at : ℕ
  pub number_is : h.number ≡ j + at
  pub helper : Helper
  pub is_helper : slice_get hs at ≡ Some helper
  pub var_is : helper.var ≡ place
  pub piece_is : helper.piece ≡ piece
  pub site_is : helper.site ≡ site
  pub direction_is : helper.direction ≡ h.direction

pub found_helper : (hs : List Helper) (j place piece site : ℕ) (h : Pipeline) → helper_from j hs place piece site ≡ Some h → IsFound hs j place piece site h
found_helper [] j place piece site h e = absurd cc
found_helper (x ∷ hs) j place piece site h e = by_test (λ f. found_helper hs (suc j) place piece site h f) (nat_eq x.var place && nat_eq x.piece piece && nat_eq x.site site) refl e
  where
    by_test : (helper_from (suc j) hs place piece site ≡ Some h → IsFound hs (suc j) place piece site h) → (b : Bool) → (nat_eq x.var place && nat_eq x.piece piece && nat_eq x.site site) ≡ b → (if b then Some (record { number = j; direction = x.direction }) else helper_from (suc j) hs place piece site) ≡ Some h → IsFound (x ∷ hs) j place piece site h
    by_test later true t f =
        let is = some_is (record { number = j; direction = x.direction }) h f in
        let l = both (nat_eq x.var place && nat_eq x.piece piece) (nat_eq x.site site) t in
        let m = both (nat_eq x.var place) (nat_eq x.piece piece) l.0 in
        record {
          at = 0;
          number_is = sym (ap (λ (y : Pipeline). y.number) is) ∙ omega arith;
          helper = x;
          is_helper = refl;
          var_is = equal x.var place m.0;
          piece_is = equal x.piece piece m.1;
          site_is = equal x.site site l.1;
          direction_is = ap (λ (y : Pipeline). y.direction) is;
        }
    by_test later false t f =
        let r = later f in
        record { at = suc r.at; number_is = r.number_is ∙ omega arith; helper = r.helper; is_helper = r.is_helper; var_is = r.var_is; piece_is = r.piece_is; site_is = r.site_is; direction_is = r.direction_is }
