-- What is met by one reference, or by some and then others.
use Rattle.std.proofs.Common.{◌≡◌, ◌<◌, ◌≤◌, ◌+◌, ◌++◌, ◌&&◌, ◌||◌, ℕ, Bool, true, false, cond, not, eqb, List, [], ◌∷◌, Option, Some, None, is_some, refl, sym, ap, ◌∙◌, inl, inr, length, take, get_or, Result, Ok, Err, OnOk}
use Rattle.std.specs.Prelude.{◌==◌, slice_index}
use Rattle.std.specs.FinMap.{get}
use Rattle.std.specs.List.{position_from}
use Rattle.std.proofs.lemmas.Bool.{and_parts, cond-true, cond-false, eq-eqb, leb-true, ltb-true, cases_eq, ne_eqb}
use Rattle.std.proofs.lemmas.List.{take_more}
use Rattle.pm3_core.specs.declared.naming.TheConstants.{BASE}
use Rattle.pm3_types.specs.Fields.{Fields}
use Rattle.pm3_types.specs.Layout.{PageImage, Sheet, begins_at, is_address, is_forwarded, is_start, is_unmoved, page_in, word_in}
use Rattle.pm3_types.specs.Numbering.{is_among, meet, number_of}
use Rattle.pm3_types.specs.PageForm.{IsSound, is_memory_reference}
use Rattle.pm3_types.specs.Record.{Record}
use Rattle.pm3_types.specs.Shown as shown
use Rattle.pm3_types.proofs.FormedObjects.{address_of, start_of, whole_start}
use Rattle.pm3_page.specs.PageMap.{Images}
use Rattle.oo7_dump.specs.Held.{AreAmong}
use Rattle.oo7_dump.specs.Meeting.{Meets}
use Rattle.oo7_dump.specs.Raw.{raw_at, raw_in, raw_record}

-- on success, references that are told by the pages are met as the same ones that are told by an object
pub met_by_pages : {T E : Type 0} (result : Result T E) (catalog : List Fields) (images : Images) (old new names : List ℕ) (told : shown.Images → List ℕ)
    → ((all : shown.Images) → AreAmong images all → told all ≡ names) → OnOk result (Meets catalog images old new names)
    → OnOk result ((all : shown.Images) → AreAmong images all → new ≡ meet (raw_at catalog BASE all) old (told all))
met_by_pages (Ok value) catalog images old new names told same met = λ all among. met all among ∙ ap (meet (raw_at catalog BASE all) old) (sym (same all among))
met_by_pages (Err fault) catalog images old new names told same met = tt

module _ (A : ℕ → Option Record) where
  -- some references, and then others
  pub meet_both : (met xs ys : List ℕ) → meet A met (xs ++ ys) ≡ meet A (meet A met xs) ys
  meet_both met [] ys = refl
  meet_both met (x ∷ xs) ys = meet_both (cond (is_some (A x) && not (is_among met x)) (met ++ x ∷ []) met) xs ys

  chosen : (there old : Bool) (x : ℕ) (met : List ℕ) → there && not old ≡ false → met ≡ cond (there && not old) (met ++ x ∷ []) met
  chosen there old x met is = sym (cond-false (there && not old) _ _ is)

  meets_none : (met : List ℕ) (x : ℕ) → A x ≡ None → met ≡ meet A met (x ∷ [])
  meets_none met x none = chosen (is_some (A x)) (is_among met x) x met (ap (λ (o : Option Record). is_some o && not (is_among met x)) none)

  never_both : (there : Bool) → there && false ≡ false
  never_both true = refl
  never_both false = refl

  pub meets_old : (met : List ℕ) (x : ℕ) → is_among met x ≡ true → met ≡ meet A met (x ∷ [])
  meets_old met x old = chosen (is_some (A x)) (is_among met x) x met (ap (λ (b : Bool). is_some (A x) && not b) old ∙ never_both (is_some (A x)))

  pub meets_new : (met : List ℕ) (x : ℕ) → is_some (A x) ≡ true → is_among met x ≡ false → met ++ x ∷ [] ≡ meet A met (x ∷ [])
  meets_new met x there new =
      sym (cond-true (is_some (A x) && not (is_among met x)) _ _ (ap (λ (b : Bool). b && not (is_among met x)) there ∙ ap not new))

  -- one more of some references
  pub meets_more : (met before now names : List ℕ) (i : ℕ) → i < length names → before ≡ meet A met (take i names) → now ≡ meet A before (get_or names i 0 ∷ [])
      → now ≡ meet A met (take (i + 1) names)
  meets_more met before now names i within so_far is =
      is ∙ ap (λ (l : List ℕ). meet A l (get_or names i 0 ∷ [])) so_far ∙ sym (meet_both met (take i names) (get_or names i 0 ∷ []))
      ∙ ap (meet A met) (sym (take_more names i 0 within))

-- nil leads nowhere
pub meets_nil : (catalog : List Fields) (all : shown.Images) (met : List ℕ) → met ≡ meet (raw_at catalog BASE all) met (0 ∷ [])
unfolding is_address
meets_nil catalog all met = meets_none (raw_at catalog BASE all) met 0 refl

object_raw : (catalog : List Fields) (sheet : Sheet) (at : ℕ) → is_start sheet at ≡ true → is_forwarded (slice_index sheet.words at) ≡ false
    → raw_in catalog (Some sheet) at ≡ Some (raw_record catalog sheet.words at)
object_raw catalog sheet at start unmoved =
    cond-true (is_unmoved sheet at) _ _ (ap (λ (b : Bool). b && not (is_forwarded (slice_index sheet.words at))) start ∙ ap not unmoved)

-- an object of an image that is held is there, also once more images are held
pub raw_there : (catalog : List Fields) (pages : ℕ) (images : Images) (all : shown.Images) (image : PageImage) (a : ℕ) → AreAmong images all → get images (page_in BASE a) ≡ Some image
    → begins_at BASE image a ≡ true → IsSound catalog BASE pages image → raw_at catalog BASE all a ≡ Some (raw_record catalog image.sheet.words (word_in BASE a))
raw_there catalog pages images all image a among on begins sound =
    let start = start_of BASE image a begins in
    let whole = whole_start catalog (is_memory_reference BASE pages) image.page image.sheet (word_in BASE a) sound start in
    cond-true (is_address BASE a) _ _ (address_of BASE image a begins)
    ∙ ap (λ (o : Option Sheet). raw_in catalog o (word_in BASE a)) (among (page_in BASE a) image on)
    ∙ object_raw catalog image.sheet (word_in BASE a) start whole.unmoved

-- a reference that isn't nil is an address of a page of the store
pub reference_parts : (base pages a : ℕ) → is_memory_reference base pages a ≡ true → (a ≡ 0 → ⊥) → (is_address base a ≡ true) × (3 ≤ page_in base a) × (page_in base a < pages)
unfolding is_memory_reference
reference_parts base pages a is some =
    let parts = and_parts _ _ (not_first (eqb a 0) _ (ne_eqb a 0 some) is) in
    let bounds = and_parts _ _ (and_parts _ _ parts.1).0 in
    (parts.0, leb-true 3 (page_in base a) bounds.0, ltb-true (page_in base a) pages bounds.1)
  where
    not_first : (b c : Bool) → b ≡ false → b || c ≡ true → c ≡ true
    not_first true c other is = absurd (cc other)
    not_first false c other is = is

either_way : (x y : ℕ) → eqb y x ≡ eqb x y
either_way x y = elim (cases_eq x y) [
  | inl same ↦ eq-eqb y x (sym same) ∙ sym (eq-eqb x y same)
  | inr apart ↦ ne_eqb y x (λ e. apart (sym e)) ∙ sym (ne_eqb x y apart)
]

some_first : (b : Bool) (i : ℕ) (o : Option ℕ) → is_some (cond b (Some i) o) ≡ (b || is_some o)
some_first true i o = refl
some_first false i o = refl

has_place : (list : List ℕ) (a i : ℕ) → is_some (position_from (λ m. m == a) i list) ≡ is_among list a
has_place [] a i = refl
has_place (x ∷ list) a i =
    some_first (eqb x a) i (position_from (λ m. m == a) (i + 1) list)
    ∙ ap (λ (b : Bool). b || is_some (position_from (λ m. m == a) (i + 1) list)) (either_way a x)
    ∙ ap (λ (b : Bool). eqb a x || b) (has_place list a (i + 1))

-- an address has a number exactly where it is among those met
pub has_number : (list : List ℕ) (a : ℕ) → is_some (number_of list a) ≡ is_among list a
has_number list a = has_place list a 1
