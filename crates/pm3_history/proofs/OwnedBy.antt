-- The space of each volatile page.
use Rattle.std.proofs.Common.{◌≡◌, ◌∙◌, ◌||◌, ℕ, Bool, true, false, cond, List, [], ◌∷◌, map, Option, Some, None, is_some, refl, sym, ap}
use Rattle.std.specs.Option.{option_or}
use Rattle.std.specs.List.{list_any}
use Rattle.std.specs.Ordering.{nat_cmp, eq_by_cmp}
use Rattle.std.specs.Cmp.{nat_cmp_total}
use Rattle.std.specs.FinMap.{FinMap, get, keys, find, contains_key, get-from_entries, contains_key-keys}
use Rattle.pm3_types.specs.Layout.{Sheet}
use Rattle.pm3_types.specs.Shown.{Images}
use Rattle.pm3_history.specs.Laid.{laid, without}
use Rattle.pm3_history.specs.State.{owned_by}
use Rattle.pm3_history.proofs.Laying.{get-laid, without_keeps, without_none}

or_cond : (b c : Bool) (s : ℕ) → cond b (Some s) (cond c (Some s) None) ≡ cond (b || c) (Some s) None
or_cond true c s = refl
or_cond false c s = refl

find_space : (q s : ℕ) (ks : List ℕ) → find nat_cmp q (map (λ (k : ℕ). (k, s)) ks) ≡ cond (list_any (eq_by_cmp nat_cmp q) ks) (Some s) None
find_space q s [] = refl
find_space q s (k ∷ ks) =
    ap (cond (eq_by_cmp nat_cmp q k) (Some s)) (find_space q s ks) ∙ or_cond (eq_by_cmp nat_cmp q k) (list_any (eq_by_cmp nat_cmp q) ks) s

-- each page of the images has the space, and no other page
pub get-owned_by : (space : ℕ) (images : Images) (q : ℕ) → get (owned_by space images) q ≡ cond (contains_key images q) (Some space) None
get-owned_by space images q =
    get-from_entries nat_cmp_total (map (λ (k : ℕ). (k, space)) (keys images)) q ∙ find_space q space (keys images)
    ∙ ap (λ (b : Bool). cond b (Some space) None) (sym (contains_key-keys images q))

pub owned_by_none : (space : ℕ) (images : Images) (q : ℕ) → get images q ≡ None → get (owned_by space images) q ≡ None
owned_by_none space images q none =
    get-owned_by space images q ∙ ap (λ (o : Option Sheet). cond (is_some o) (Some space) None) none

-- images and spaces that had the same pages have them after a pass
pub owned_after : (volatile before after : Images) (owner : FinMap nat_cmp ℕ) (space q : ℕ) → contains_key volatile q ≡ contains_key owner q
    → contains_key (laid (without volatile before) after) q ≡ contains_key (laid (without owner before) (owned_by space after)) q
owned_after volatile before after owner space q same =
    ap is_some (get-laid (without volatile before) after q) ∙ by (get after q) (get before q) refl refl
    ∙ sym (ap is_some (get-laid (without owner before) (owned_by space after) q ∙ ap (λ (o : Option ℕ). option_or o (get (without owner before) q)) (get-owned_by space after q)))
  where
    by : (o p : Option Sheet) → get after q ≡ o → get before q ≡ p
        → is_some (option_or (get after q) (get (without volatile before) q)) ≡ is_some (option_or (cond (contains_key after q) (Some space) None) (get (without owner before) q))
    by (Some sheet) p is also =
        ap (λ (o : Option Sheet). is_some (option_or o (get (without volatile before) q))) is
        ∙ sym (ap (λ (o : Option Sheet). is_some (option_or (cond (is_some o) (Some space) None) (get (without owner before) q))) is)
    by None None none off =
        ap (λ (o : Option Sheet). is_some (option_or o (get (without volatile before) q))) none
        ∙ ap is_some (without_keeps volatile before q off) ∙ same ∙ sym (ap is_some (without_keeps owner before q off))
        ∙ sym (ap (λ (o : Option Sheet). is_some (option_or (cond (is_some o) (Some space) None) (get (without owner before) q))) none)
    by None (Some sheet) none on =
        ap (λ (o : Option Sheet). is_some (option_or o (get (without volatile before) q))) none
        ∙ ap is_some (without_none volatile before q (ap is_some on)) ∙ sym (ap is_some (without_none owner before q (ap is_some on)))
        ∙ sym (ap (λ (o : Option Sheet). is_some (option_or (cond (is_some o) (Some space) None) (get (without owner before) q))) none)
