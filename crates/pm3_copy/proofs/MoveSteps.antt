-- One object more is moved.
use Rattle.std.proofs.Common.{◌≡◌, ◌≢◌, ◌<◌, ◌≤◌, ◌+◌, ◌∙◌, inl, inr, ℕ, List, [], ◌∷◌, ◌++◌, length, map, drop, get_or, Option, Some, refl, sym, ap, subst, arith}
use Rattle.std.specs.FinMap as map_of
use Rattle.std.specs.List.{All, Contains}
use Rattle.std.proofs.lemmas.Bool.{cases_lt}
use Rattle.std.proofs.lemmas.List.{append-nil}
use Rattle.pm3_types.specs.Fields.{Fields}
use Rattle.pm3_types.specs.Layout.{Sheet, PageImage, address, page_in, word_in, size_at, end_of}
use Rattle.pm3_types.specs.PassMoves.{size_on, size_from, sizes, settle, pages_behind, pages_wanted}
use Rattle.pm3_page.specs.Next.{IsLeast}
use Rattle.pm3_page.specs.PageMap.{Images}
use Rattle.pm3_page.specs.PageSheets.{AreSoundPages, sheets_of}
use Rattle.pm3_copy.specs.Fresh.{blank, AreNext}
use Rattle.pm3_copy.specs.Moving.{PutsCopy, AreSettled}
use Rattle.pm3_copy.specs.Whole.{IsObjectOf}
use Rattle.pm3_copy.proofs.CopiedObjects.{blank_end}
use Rattle.pm3_copy.proofs.PlanParts.{sizes_within}
use Rattle.pm3_copy.proofs.Settling.{drop_sizes, drop_past, goes_on}
use Rattle.pm3_copy.proofs.Spots.{AreSettling, settle_full, to_next, to_place}
use Rattle.pm3_copy.proofs.Wholes.{same_some, sheet_on}

-- a page ends here
abbrev pub HasSpot : Images → ℕ → ℕ → Type 0
HasSpot images page end = (target : PageImage) × (map_of.get images page ≡ Some target) × (end_of target.sheet ≡ end) × (3 ≤ page) × (2 ≤ end)

-- the words of an object, by its image
pub size_here : (catalog : List Fields) (base : ℕ) (space : Images) (a : ℕ) (image : PageImage) → map_of.get space (page_in base a) ≡ Some image
    → size_from catalog base (sheets_of space) a ≡ size_at catalog image.sheet (word_in base a)
size_here catalog base space a image on = ap (λ (o : Option Sheet). size_on catalog o (word_in base a)) (sheet_on space (page_in base a) image on)

-- the places of some list of numbers begin behind a page
pub settling_none : (base : ℕ) (sizes pages more : List ℕ) (after : ℕ) (images : Images) → AreNext images (after + 1) (pages ++ more) → length pages ≡ pages_wanted sizes
    → ((i : ℕ) → i < length sizes → 0 < get_or sizes i 0) → AreSettling base sizes pages more after images sizes [] after 512
settling_none base sizes pages more after images next long some = record {
  rest = pages;
  next = next;
  enough = long;
  places = settle_full base sizes 0 after pages some;
  behind = λ less. absurd (omega arith);
  low = omega arith;
  above = omega arith;
  up_to = λ i less. absurd (omega arith);
}

module _ (base : ℕ) (f : ℕ → ℕ) (olds : List ℕ) (after : ℕ) (old now : Images) (news : List ℕ) (page end i s : ℕ) (low : i < length olds) (is : s ≡ f (get_or olds i 0)) (two : 2 ≤ s) (most : s ≤ 510) where
  abbrev Settling : ℕ → Images → List ℕ → ℕ → ℕ → Type 0
  Settling n images places page end = (pages more : List ℕ) → AreNext old (after + 1) (pages ++ more) → length pages ≡ pages_wanted (map f olds)
      → AreSettling base (map f olds) pages more after images (map f (drop n olds)) places page end

  left : map f (drop i olds) ≡ s ∷ map f (drop (i + 1) olds)
  left = drop_sizes f olds i low ∙ ap (λ n. n ∷ map f (drop (i + 1) olds)) (sym is)

  module _ (settling : Settling i now news page end) (spot : end < 512 → HasSpot now page end) (pages more : List ℕ) (next : AreNext old (after + 1) (pages ++ more)) (long : length pages ≡ pages_wanted (map f olds)) where
    -- there is a further page where one is needed
    pub page_left : 512 < end + s → (p : ℕ) × IsLeast (map_of.contains_key now) (page + 1) p
    page_left high = by are.rest are.next (are.enough ∙ ap (λ xs. pages_behind xs end) left ∙ goes_on s end (map f (drop (i + 1) olds)) high)
      where
        are : AreSettling base (map f olds) pages more after now (map f (drop i olds)) news page end
        are = settling pages more next long

        by : (rest : List ℕ) → AreNext now (page + 1) (rest ++ more) → length rest ≡ 1 + pages_behind (map f (drop (i + 1) olds)) (2 + s) → (p : ℕ) × IsLeast (map_of.contains_key now) (page + 1) p
        by [] is_next enough = absurd (omega (arith, enough))
        by (q ∷ qs) is_next enough = (q, is_next.0)

    -- the page and the word where the object goes
    pub spot_found : (now_page now_end : ℕ) → (end + s ≤ 512 → (now_page ≡ page) × (now_end ≡ end)) → (512 < end + s → IsLeast (map_of.contains_key now) (page + 1) now_page × (now_end ≡ 2))
        → HasSpot now now_page now_end × (now_end + s ≤ 512) × (after < now_page) × Settling i now news now_page now_end
    spot_found now_page now_end same begun = elim (cases_lt 512 (end + s)) [
      | inl high ↦ (
          let least = (begun high).0 in
          let at_two = (begun high).1 in
          let stands = to_next base (map f olds) pages more after now s (map f (drop (i + 1) olds)) news page end now_page (over (settling pages more next long)) high most least in (
            (blank now_page, stands.2, blank_end ∙ sym at_two, stands.1, omega (arith, at_two)),
            omega (arith, at_two),
            stands.0.behind (omega arith),
            λ pages more next long.
                let there = to_next base (map f olds) pages more after now s (map f (drop (i + 1) olds)) news page end now_page (over (settling pages more next long)) high most least in
                subst (AreSettling base (map f olds) pages more after now (map f (drop i olds)) news now_page) (sym at_two) (back there.0),
          ))
      | inr fits ↦ (
          let e = same fits in
          let here = spot (omega arith) in
          let behind = (settling pages more next long).behind (omega arith) in (
            (here.0, ap (map_of.get now) e.0 ∙ here.1, here.2 ∙ sym e.1, omega (arith, e.0, here.3), omega (arith, e.1, here.4)),
            omega (arith, e.1),
            omega (arith, e.0, behind),
            λ pages more next long.
                subst (λ p. AreSettling base (map f olds) pages more after now (map f (drop i olds)) news p now_end) (sym e.0)
                (subst (AreSettling base (map f olds) pages more after now (map f (drop i olds)) news page) (sym e.1) (settling pages more next long)),
          ))
    ]
      where
        over : {pages more : List ℕ} {p e : ℕ} → AreSettling base (map f olds) pages more after now (map f (drop i olds)) news p e → AreSettling base (map f olds) pages more after now (s ∷ map f (drop (i + 1) olds)) news p e
        over {pages} {more} {p} {e} are = subst (λ xs. AreSettling base (map f olds) pages more after now xs news p e) left are

        back : {pages more : List ℕ} {p e : ℕ} → AreSettling base (map f olds) pages more after now (s ∷ map f (drop (i + 1) olds)) news p e → AreSettling base (map f olds) pages more after now (map f (drop i olds)) news p e
        back {pages} {more} {p} {e} are = subst (λ xs. AreSettling base (map f olds) pages more after now xs news p e) (sym left) are

  -- the object is there
  pub settled_more : (new : Images) (to : ℕ) → Settling i now news page end → end + s ≤ 512 → to ≡ address base page end → ((p : ℕ) → p ≢ page → map_of.get new p ≡ map_of.get now p)
      → Settling (i + 1) new (news ++ to ∷ []) page (end + s)
  settled_more new to settling fits at others pages more next long =
      subst (λ a. AreSettling base (map f olds) pages more after new (map f (drop (i + 1) olds)) (news ++ a ∷ []) page (end + s)) (sym at)
      (to_place base (map f olds) pages more after now new s (map f (drop (i + 1) olds)) news page end
      (subst (λ xs. AreSettling base (map f olds) pages more after now xs news page end) left (settling pages more next long)) fits (omega arith) others)

-- all objects are there
pub settled_all : (catalog : List Fields) (base : ℕ) (space : Images) (olds pages more : List ℕ) (after : ℕ) (now : Images) (news : List ℕ) (page end i : ℕ) → length olds ≤ i
    → AreSettling base (map (size_from catalog base (sheets_of space)) olds) pages more after now (map (size_from catalog base (sheets_of space)) (drop i olds)) news page end
    → AreSettled catalog base space olds news pages page × AreNext now (page + 1) more
settled_all catalog base space olds pages more after now news page end i past are =
    let none : map f (drop i olds) ≡ [] = drop_past f olds i past in
    let no_rest : are.rest ≡ [] = empty are.rest (are.enough ∙ ap (λ xs. pages_behind xs end) none) in (
      record {
        are = sym (are.places ∙ ap (λ xs. news ++ settle base xs page end are.rest) none ∙ append-nil news);
        up_to = are.up_to;
      },
      subst (λ xs. AreNext now (page + 1) (xs ++ more)) no_rest are.next,
    )
  where
    f : ℕ → ℕ
    f = size_from catalog base (sheets_of space)

    empty : (xs : List ℕ) → length xs ≡ 0 → xs ≡ []
    empty [] e = refl
    empty (x ∷ xs) e = absurd (omega arith)

-- the word where the object goes
pub ends_at : (catalog : List Fields) (base : ℕ) (space : Images) (a page end : ℕ) (now new : Images) (step : PutsCopy catalog base space a page now new) → HasSpot now page end → end_of step.target.sheet ≡ end
ends_at catalog base space a page end now new step spot = (let same : spot.0 ≡ step.target = same_some spot.0 step.target (sym spot.1 ∙ step.was) in sym (ap (λ (i : PageImage). end_of i.sheet) same) ∙ spot.2)

-- the page goes on behind the object
pub spot_more : (catalog : List Fields) (base : ℕ) (space : Images) (a page end s : ℕ) (now new : Images) (step : PutsCopy catalog base space a page now new) → HasSpot now page end
    → s ≡ size_from catalog base (sheets_of space) a → HasSpot new page (end + s)
spot_more catalog base space a page end s now new step spot is =
    let was = ends_at catalog base space a page end now new step spot in
    let size = size_here catalog base space a step.source step.on in
    (step.now, step.is, omega (arith, step.copied.end, was, size, is), spot.3, omega (arith, spot.4))

-- what holds at each place of a list holds of its members
pub of_all : (P : ℕ → Type 0) (list : List ℕ) (a : ℕ) → All P list → Contains list a → P a
of_all P list a all is = subst P is.2 (all is.0 a is.1)

-- the objects have words
pub some_words : (catalog : List Fields) (base : ℕ) (space : Images) (olds : List ℕ) → AreSoundPages catalog base 16384 space → All (IsObjectOf base space) olds
    → (i : ℕ) → i < length (sizes catalog base (sheets_of space) olds) → 0 < get_or (sizes catalog base (sheets_of space) olds) i 0
some_words catalog base space olds sound objects i less = (let two = (sizes_within catalog base space sound olds (λ a is. of_all (IsObjectOf base space) olds a objects is) i 0 less).0 in omega arith)
