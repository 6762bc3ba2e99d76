-- Base assemblies: what their three places name, and what they name once one is cleared or set.
use Rattle.std.proofs.Common.{◌≡◌, ℕ, List, [], ◌∷◌, length, Bool, true, false, cond, Option, None, Some, ◌⊎◌, refl, sym, arith, ap, subst, ◌∙◌, get_or}
use Rattle.std.specs.Prelude.{◌==◌, ◌||◌, fold}
use Rattle.std.specs.List.{AllByRecursion, slice_get}
use Rattle.pm3_types.specs.declared.places.Place.TheVariants.{Reference}
use Rattle.pm3_types.specs.declared.type_map.Tail.TheVariants.{Empty}
use Rattle.pm3_types.specs.Fields.{Fields, is_reference}
use Rattle.pm3_types.specs.Record.{Record}
use Rattle.pm3_types.specs.Numbering.{is_among}
use Rattle.oo7_schema.specs.Lookup.{Look, listed_schema, value_in, set_in, set}
use Rattle.oo7_schema.specs.Changes.{cleared, unlinked}
use Rattle.oo7_schema.specs.Designs.{IsBase}
use Rattle.oo7_schema.proofs.Testing.{itself, same_number, apart_numbers, first_fails, second_fails}
use Rattle.oo7_schema.proofs.Deciding.{of_test, is_of}
use Rattle.oo7_schema.proofs.Pieces.{written_out}
use Rattle.oo7_schema.proofs.KeptObjects.{places_in}

-- a base assembly, written out
abbrev pub base : ℕ → ℕ → ℕ → ℕ → ℕ → Record
base id date first second third = record { ty = 3; fields = id ∷ date ∷ first ∷ second ∷ third ∷ []; tail = [] }

-- an object is a base assembly, and this holds of what its places name
pub record Uses (P : ℕ → Type 0) (o : Option Record) : Type 0 where
  pub id : ℕ
  pub date : ℕ
  pub one : ℕ
  pub two : ℕ
  pub three : ℕ
  pub is : o ≡ Some (base id date one two three)
  pub first : P one
  pub second : P two
  pub third : P three

pub no_items : (ns : List ℕ) → length ns ≡ 0 → ns ≡ []
no_items [] none = refl
no_items (n ∷ ns) none = absurd (omega arith)

-- what the class of an object asks of its fields and its tail
abbrev pub Asks : Option Fields → Record → Type 0
Asks None r = ⊥
Asks (Some map) r = (length r.fields ≡ map.count) × (map.tail ≡ Empty → length r.tail ≡ 0)

places_are : (id date one two three : ℕ) → places_in (Some (base id date one two three)) ≡ one ∷ two ∷ three ∷ []
unfolding is_reference
places_are id date one two three = refl

pub uses_of : (look : Look) (parts : List ℕ) (n : ℕ) → IsBase look parts n → Uses (λ (c : ℕ). (c ≡ 0) ⊎ (is_among parts c ≡ true)) (look n)
uses_of look parts n is =
    let asks : Asks (slice_get listed_schema 3) is.is.object =
    subst (λ (o : Option Fields). Asks o is.is.object) (sym is.is.fits.of ∙ ap (λ (ty : ℕ). slice_get listed_schema ty) is.is.of) (is.is.fits.fields, is.is.fits.tail) in
    let fields : List ℕ = is.is.object.fields in
    let tail : is.is.object.tail ≡ [] = no_items is.is.object.tail (asks.1 refl) in
    let here : look n ≡ Some (base (get_or fields 0 0) (get_or fields 1 0) (get_or fields 2 0) (get_or fields 3 0) (get_or fields 4 0)) =
    is.is.is ∙ (λ i. Some (record { ty = is.is.of i; fields = written_out fields 5 asks.0 i; tail = tail i })) in
    let named : AllByRecursion (λ (c : ℕ). (c ≡ 0) ⊎ (is_among parts c ≡ true)) ((get_or fields 2 0) ∷ (get_or fields 3 0) ∷ (get_or fields 4 0) ∷ []) =
    subst (λ (ns : List ℕ). AllByRecursion (λ (c : ℕ). (c ≡ 0) ⊎ (is_among parts c ≡ true)) ns) (ap places_in here ∙ places_are (get_or fields 0 0) (get_or fields 1 0) (get_or fields 2 0) (get_or fields 3 0) (get_or fields 4 0)) is.uses in
    record { id = get_or fields 0 0; date = get_or fields 1 0; one = get_or fields 2 0; two = get_or fields 3 0; three = get_or fields 4 0; is = here; first = named.0; second = named.1.0; third = named.1.1.0 }

pub base_of : (P : ℕ → Type 0) (look : Look) (parts : List ℕ) (n : ℕ) → ((c : ℕ) → P c → (c ≡ 0) ⊎ (is_among parts c ≡ true)) → Uses P (look n) → IsBase look parts n
base_of P look parts n named uses = record {
  is = is_of look 3 n (ap (of_test 3) uses.is);
  uses = subst (λ (ns : List ℕ). AllByRecursion (λ (c : ℕ). (c ≡ 0) ⊎ (is_among parts c ≡ true)) ns) (sym (ap places_in uses.is ∙ places_are uses.id uses.date uses.one uses.two uses.three))
      (named uses.one uses.first, (named uses.two uses.second, (named uses.three uses.third, tt)));
}

pub uses_wider : (P Q : ℕ → Type 0) (o : Option Record) → ((c : ℕ) → P c → Q c) → Uses P o → Uses Q o
uses_wider P Q o wider uses = record {
  id = uses.id;
  date = uses.date;
  one = uses.one;
  two = uses.two;
  three = uses.three;
  is = uses.is;
  first = wider uses.one uses.first;
  second = wider uses.two uses.second;
  third = wider uses.three uses.third;
}

-- a name, and nil where it is c
abbrev without : ℕ → ℕ → ℕ
without c n = cond (n == c) 0 n

-- a place that names c becomes nil
abbrev clear_in : ℕ → ℕ → Option Record → Option Record
clear_in c place o = cond (value_in o (Reference place) == c) (set_in (Reference place) 0 o) o

abbrev clear_all : ℕ → Option Record → Option Record
clear_all c o = clear_in c 4 (clear_in c 3 (clear_in c 2 o))

first_cleared : (c id date one two three : ℕ) → clear_in c 2 (Some (base id date one two three)) ≡ Some (base id date (without c one) two three)
unfolding is_reference
first_cleared c id date one two three = by_test (one == c)
  where
    by_test : (b : Bool) → cond b (Some (base id date 0 two three)) (Some (base id date one two three)) ≡ Some (base id date (cond b 0 one) two three)
    by_test true = refl
    by_test false = refl

second_cleared : (c id date one two three : ℕ) → clear_in c 3 (Some (base id date one two three)) ≡ Some (base id date one (without c two) three)
unfolding is_reference
second_cleared c id date one two three = by_test (two == c)
  where
    by_test : (b : Bool) → cond b (Some (base id date one 0 three)) (Some (base id date one two three)) ≡ Some (base id date one (cond b 0 two) three)
    by_test true = refl
    by_test false = refl

third_cleared : (c id date one two three : ℕ) → clear_in c 4 (Some (base id date one two three)) ≡ Some (base id date one two (without c three))
unfolding is_reference
third_cleared c id date one two three = by_test (three == c)
  where
    by_test : (b : Bool) → cond b (Some (base id date one two 0)) (Some (base id date one two three)) ≡ Some (base id date one two (cond b 0 three))
    by_test true = refl
    by_test false = refl

-- what holds of nil and of a name holds of it without c, and it isn't c
without_is : (P : ℕ → Type 0) (c n : ℕ) → P 0 → (0 ≡ c → ⊥) → P n → P (without c n) × (without c n ≡ c → ⊥)
without_is P c n nil other holds = by_test (n == c) refl
  where
    by_test : (b : Bool) → (n == c) ≡ b → P (cond b 0 n) × (cond b 0 n ≡ c → ⊥)
    by_test true is = (nil, other)
    by_test false is = (holds, apart_numbers n c is)

-- this holds of a name, and it isn't c
abbrev pub But : (ℕ → Type 0) → ℕ → ℕ → Type 0
But P c n = P n × (n ≡ c → ⊥)

uses_cleared : (P : ℕ → Type 0) (c : ℕ) (o : Option Record) → P 0 → (0 ≡ c → ⊥) → Uses P o → Uses (But P c) (clear_all c o)
uses_cleared P c o nil other uses = record {
  id = uses.id;
  date = uses.date;
  one = without c uses.one;
  two = without c uses.two;
  three = without c uses.three;
  is = ap (clear_all c) uses.is ∙ ap (λ (p : Option Record). clear_in c 4 (clear_in c 3 p)) (first_cleared c uses.id uses.date uses.one uses.two uses.three)
      ∙ ap (clear_in c 4) (second_cleared c uses.id uses.date (without c uses.one) uses.two uses.three)
      ∙ third_cleared c uses.id uses.date (without c uses.one) (without c uses.two) uses.three;
  first = without_is P c uses.one nil other uses.first;
  second = without_is P c uses.two nil other uses.second;
  third = without_is P c uses.three nil other uses.third;
}

cleared_here : (c : ℕ) (look : Look) (b place : ℕ) → cleared c look b place b ≡ clear_in c place (look b)
cleared_here c look b place = by_test (value_in (look b) (Reference place) == c)
  where
    by_test : (t : Bool) → cond t (set look b (Reference place) 0) look b ≡ cond t (set_in (Reference place) 0 (look b)) (look b)
    by_test true = ap (λ (s : Bool). cond s (set_in (Reference place) 0 (look b)) (look b)) (itself b)
    by_test false = refl

cleared_off : (c : ℕ) (look : Look) (b place n : ℕ) → (n == b) ≡ false → cleared c look b place n ≡ look n
cleared_off c look b place n off = by_test (value_in (look b) (Reference place) == c)
  where
    by_test : (t : Bool) → cond t (set look b (Reference place) 0) look n ≡ look n
    by_test true = ap (λ (s : Bool). cond s (set_in (Reference place) 0 (look b)) (look n)) off
    by_test false = refl

unlinked_here : (c : ℕ) (look : Look) (b : ℕ) → unlinked c look b b ≡ clear_all c (look b)
unlinked_here c look b =
    cleared_here c (cleared c (cleared c look b 2) b 3) b 4 ∙ ap (clear_in c 4) (cleared_here c (cleared c look b 2) b 3 ∙ ap (clear_in c 3) (cleared_here c look b 2))

unlinked_off : (c : ℕ) (look : Look) (b n : ℕ) → (n == b) ≡ false → unlinked c look b n ≡ look n
unlinked_off c look b n off =
    cleared_off c (cleared c (cleared c look b 2) b 3) b 4 n off ∙ cleared_off c (cleared c look b 2) b 3 n off ∙ cleared_off c look b 2 n off

-- objects that are none of these base assemblies stay as they are
pub all_unlinked_off : (c : ℕ) (bs : List ℕ) (look : Look) (n : ℕ) → is_among bs n ≡ false → fold (unlinked c) look bs n ≡ look n
all_unlinked_off c [] look n off = refl
all_unlinked_off c (b ∷ bs) look n off =
    all_unlinked_off c bs (unlinked c look b) n (second_fails (n == b) (is_among bs n) off) ∙ unlinked_off c look b n (first_fails (n == b) (is_among bs n) off)

module _ (P : ℕ → Type 0) (c : ℕ) (nil : P 0) (other : 0 ≡ c → ⊥) where
  -- a base assembly that names c no more goes on so
  stays_cleared : (bs : List ℕ) (look : Look) (n : ℕ) → Uses (But P c) (look n) → Uses (But P c) (fold (unlinked c) look bs n)
  stays_cleared [] look n uses = uses
  stays_cleared (b ∷ bs) look n uses = stays_cleared bs (unlinked c look b) n (by_test (n == b) refl)
    where
      by_test : (t : Bool) → (n == b) ≡ t → Uses (But P c) (unlinked c look b n)
      by_test true is =
          let same : n ≡ b = same_number n b is in
          subst (λ (m : ℕ). Uses (But P c) (unlinked c look b m)) (sym same)
          (subst (λ (o : Option Record). Uses (But P c) o) (sym (unlinked_here c look b))
          (uses_cleared P c (look b) nil other (uses_wider (But P c) P (look b) (λ m both. both.0) (subst (λ (m : ℕ). Uses (But P c) (look m)) same uses))))
      by_test false is = subst (λ (o : Option Record). Uses (But P c) o) (sym (unlinked_off c look b n is)) uses

  pub all_unlinked : (bs : List ℕ) (look : Look) (n : ℕ) → is_among bs n ≡ true → Uses P (look n) → Uses (But P c) (fold (unlinked c) look bs n)
  all_unlinked [] look n among uses = cc
  all_unlinked (b ∷ bs) look n among uses = by_test (n == b) refl (all_unlinked bs (unlinked c look b) n)
    where
      by_test : (t : Bool) → (n == b) ≡ t → (is_among bs n ≡ true → Uses P (unlinked c look b n) → Uses (But P c) (fold (unlinked c) (unlinked c look b) bs n))
          → Uses (But P c) (fold (unlinked c) (unlinked c look b) bs n)
      by_test true is later =
          let same : n ≡ b = same_number n b is in
          stays_cleared bs (unlinked c look b) n
          (subst (λ (m : ℕ). Uses (But P c) (unlinked c look b m)) (sym same)
          (subst (λ (o : Option Record). Uses (But P c) o) (sym (unlinked_here c look b)) (uses_cleared P c (look b) nil other (subst (λ (m : ℕ). Uses P (look m)) same uses))))
      by_test false is later =
          later (ap (λ (t : Bool). t || is_among bs n) (sym is) ∙ among) (subst (λ (o : Option Record). Uses P o) (sym (unlinked_off c look b n is)) uses)
