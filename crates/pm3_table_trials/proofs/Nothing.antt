-- Images that are none.
use Rattle.std.proofs.Common.{◌≡◌, ℕ, ◌==◌, ◌||◌, Bool, true, false, List, [], ◌∷◌, length, map, is_some, refl, sym, ap, ◌∙◌, arith}
use Rattle.std.specs.List.{list_any}
use Rattle.std.specs.Ordering.{nat_cmp}
use Rattle.std.specs.FinMap as fin
use Rattle.std.specs.FinMap.{get-empty, len-entries, len-empty}
use Rattle.pm3_types.specs.Fields.{Fields}
use Rattle.pm3_types.specs.Layout.{Sheet}
use Rattle.pm3_table.specs.declared.view.Told.{Told}
use Rattle.pm3_table.specs.Entries.{images_refer, sheet_refers}
use Rattle.pm3_table.specs.Histories.{some_has}
use Rattle.pm3_table.specs.Telling.{names, names_page}
use Rattle.pm3_table.specs.Words.{turn_unit}
use Rattle.pm3_table_trials.specs.Tallies.{nothing_by}

nil : {A : Type 0} (xs : List A) → length xs ≡ 0 → xs ≡ []
nil [] e = refl
nil (x ∷ xs) e = absurd (omega arith)

no_keys : fin.keys {X = Sheet} (fin.empty {R = nat_cmp}) ≡ []
no_keys = ap (map (λ (e : ℕ × Sheet). e.0)) (nil (fin.entries (fin.empty {R = nat_cmp})) (sym (len-entries fin.empty) ∙ len-empty nat_cmp Sheet))

-- no page has an image there, and none is named
pub none_refer : (catalog : List Fields) (page : ℕ) → images_refer catalog fin.empty page ≡ false
none_refer catalog page = λ i. is_some (get-empty {X = Sheet} nat_cmp page i)
    || list_any (λ from. sheet_refers catalog page from (fin.get {X = Sheet} (fin.empty {R = nat_cmp}) from)) (no_keys i)

pub nothing_refers : (told : Told) (k page : ℕ) → some_has (names_page told) (nothing_by k ∷ []) page ≡ false
nothing_refers told k page = λ i. (none_refer told.opening.catalog page i || false) || false

or_nothing : (b : Bool) → (b || false) ≡ b
or_nothing true = refl
or_nothing false = refl

-- a commit that changed nothing names the turn alone
pub names_turn_alone : (told : Told) (k u : ℕ) → names told (nothing_by k) u ≡ (u == turn_unit told.pages)
names_turn_alone told k u = (λ i. (u == turn_unit told.pages) || (is_some (get-empty {X = Sheet} nat_cmp u i) || false)) ∙ or_nothing (u == turn_unit told.pages)

pub names_turn_list : (told : Told) (k u : ℕ) → some_has (names told) (nothing_by k ∷ []) u ≡ (u == turn_unit told.pages)
names_turn_list told k u = or_nothing (names told (nothing_by k) u) ∙ names_turn_alone told k u
