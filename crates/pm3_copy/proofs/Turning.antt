-- A pinned page with a promoted object is turned whole.
use Rattle.std.proofs.Common.{◌≡◌, ◌<◌, ◌≤◌, ◌+◌, ◌⊎◌, ◌||◌, inl, inr, ◌∙◌, ℕ, Bool, true, false, List, length, get_or, Some, refl, sym, ap, subst, arith}
use Rattle.std.specs.Ordering.{nat_cmp, eq_by_cmp}
use Rattle.std.specs.Cmp.{nat_cmp_total, unsigned_tied}
use Rattle.std.specs.FinMap as map
use Rattle.std.specs.FinSet as set
use Rattle.std.specs.FinSet.{contains-insert, contains-empty}
use Rattle.std.specs.List.{Contains}
use Rattle.std.proofs.lemmas.Bool.{cases_eq, eq-eqb, ne_eqb, false≢true}
use Rattle.pm3_types.specs.Fields.{Fields}
use Rattle.pm3_types.specs.Layout.{Sheet, PageImage, begins_at, page_in, word_in}
use Rattle.pm3_types.specs.PageForm.{is_memory_reference}
use Rattle.pm3_types.specs.Objects.{RefersTo, RootIs, is_object_at}
use Rattle.pm3_types.specs.PassSets.{IsReferredTo, BringsAlong, Promoted, Turns, is_pinned}
use Rattle.pm3_types.specs.Least.Least.{begin, next}
use Rattle.pm3_types.specs.PassMoves.{IsListOf}
use Rattle.pm3_page.specs.PageMap.{Images}
use Rattle.pm3_page.specs.PageSheets.{AreSoundPages, sheets_of}
use Rattle.pm3_copy.specs.Finds.{Finds, Adds, AreFound}
use Rattle.pm3_copy.specs.References.{RefersIn, RefersOn, RefersFrom}
use Rattle.pm3_copy.specs.Spreading.{IsSpread, AreWhole, AreTurned, LeadsTo, TurnsPage, before_of}
use Rattle.pm3_copy.specs.Whole.{IsObjectOf}
use Rattle.pm3_copy.proofs.Adding.{adds_keeps, adds_then}
use Rattle.pm3_copy.proofs.WorkLists.{spread_none, spread_more, complete, place_kept, no_fewer}
use Rattle.pm3_types.proofs.FormedObjects.{page_is, start_of, objects_of}
use Rattle.pm3_copy.proofs.Wholes.{object_of, object_begins, object_here, object_there, sheet_on, image_on, same_some}
use Rattle.std.proofs.lemmas.List.{get_or_default}
use Rattle.std.proofs.lemmas.List.Elements.{Contains-get_or}

pub has_inserted : (pages : set.FinSet nat_cmp) (p q : ℕ) → set.contains (set.insert pages p) q ≡ true → (q ≡ p) ⊎ (set.contains pages q ≡ true)
has_inserted pages p q is = elim (cases_eq q p) [
  | inl same ↦ inl same
  | inr apart ↦ inr (sym (contains-insert nat_cmp_total pages p q ∙ ap (λ (b : Bool). b || set.contains pages q) (unsigned_tied q p ∙ ne_eqb q p apart)) ∙ is)
]

pub inserted_here : (pages : set.FinSet nat_cmp) (p q : ℕ) → q ≡ p → set.contains (set.insert pages p) q ≡ true
inserted_here pages p q same = contains-insert nat_cmp_total pages p q ∙ ap (λ (b : Bool). b || set.contains pages q) (unsigned_tied q p ∙ eq-eqb q p same)

or_true : (b : Bool) → (b || true) ≡ true
or_true true = refl
or_true false = refl

pub inserted_there : (pages : set.FinSet nat_cmp) (p q : ℕ) → set.contains pages q ≡ true → set.contains (set.insert pages p) q ≡ true
inserted_there pages p q is = contains-insert nat_cmp_total pages p q ∙ ap (λ (b : Bool). eq_by_cmp nat_cmp q p || b) is ∙ or_true (eq_by_cmp nat_cmp q p)

-- the page is turned now
pub turned_now : (pinned old : set.FinSet nat_cmp) (page : ℕ) → set.contains pinned page ≡ true → TurnsPage pinned page old (set.insert old page)
turned_now pinned old page is = λ p. (to p, back p)
  where
    to : (p : ℕ) → set.contains (set.insert old page) p ≡ true → (set.contains old p ≡ true) ⊎ ((p ≡ page) × (set.contains pinned page ≡ true))
    to p has = elim (has_inserted old page p has) [ inl same ↦ inr (same, is) | inr was ↦ inl was ]

    back : (p : ℕ) → (set.contains old p ≡ true) ⊎ ((p ≡ page) × (set.contains pinned page ≡ true)) → set.contains (set.insert old page) p ≡ true
    back p (inl was) = inserted_there old page p was
    back p (inr here) = inserted_here old page p here.0

-- it was turned before, or it is not pinned
pub not_turned : (pinned old : set.FinSet nat_cmp) (page : ℕ) → (set.contains pinned page ≡ true → set.contains old page ≡ true) → TurnsPage pinned page old old
not_turned pinned old page was = λ p. (λ is. inl is, back p)
  where
    back : (p : ℕ) → (set.contains old p ≡ true) ⊎ ((p ≡ page) × (set.contains pinned page ≡ true)) → set.contains old p ≡ true
    back p (inl is) = is
    back p (inr here) = ap (set.contains old) here.0 ∙ was here.1

module _ (catalog : List Fields) (base : ℕ) (images : Images) (sound : AreSoundPages catalog base 16384 images) where
  -- what an object refers to, by its page's image
  pub refers_to : (a b : ℕ) (image : PageImage) → map.get images (page_in base a) ≡ Some image → RefersIn catalog image.sheet (word_in base a) b → RefersTo catalog base (sheets_of images) a b
  refers_to a b image on r = record { sheet = image.sheet; place = r.place; on = sheet_on images (page_in base a) image on; reference = r.reference; is = r.is }

  pub refers_in : (a b : ℕ) (image : PageImage) → map.get images (page_in base a) ≡ Some image → RefersTo catalog base (sheets_of images) a b → RefersIn catalog image.sheet (word_in base a) b
  refers_in a b image on r =
      let same : r.sheet ≡ image.sheet = same_some r.sheet image.sheet (sym r.on ∙ sheet_on images (page_in base a) image on) in
      let P : Sheet → Type 0 = λ s. RefersIn catalog s (word_in base a) b in
      subst P same (record { place = r.place; reference = r.reference; is = r.is })

  -- an object is followed, and its page turned
  pub brought : (pinned : set.FinSet nat_cmp) (a : ℕ) (image : PageImage) (old mid new : Finds) → map.get images (page_in base a) ≡ Some image
      → Adds (RefersIn catalog image.sheet (word_in base a)) old mid → Adds (λ b. (set.contains pinned (page_in base a) ≡ true) × (begins_at base image b ≡ true)) mid new
      → Adds (LeadsTo catalog base images pinned a) old new
  brought pinned a image old mid new on first second =
      adds_then (RefersIn catalog image.sheet (word_in base a)) (λ b. (set.contains pinned (page_in base a) ≡ true) × (begins_at base image b ≡ true)) (LeadsTo catalog base images pinned a) old mid new first second
      parts (λ b r. inl (refers_to a b image on r))
      (λ b p. inr (p.0, object_of base images (page_in base a) image b sound.home on p.1, page_is base image b p.1 ∙ sound.home (page_in base a) image on))
    where
      parts : (b : ℕ) → Contains old.objects b → LeadsTo catalog base images pinned a b → RefersIn catalog image.sheet (word_in base a) b ⊎ ((set.contains pinned (page_in base a) ≡ true) × (begins_at base image b ≡ true))
      parts b there (inl r) = inl (refers_in a b image on r)
      parts b there (inr p) = inr (p.0, object_begins base images (page_in base a) image b on p.1 p.2)

  -- the pages that were turned stay whole, and the one that is turned now is whole
  pub whole_after : (pinned turned now : set.FinSet nat_cmp) (a : ℕ) (image : PageImage) (old new : Finds) → map.get images (page_in base a) ≡ Some image
      → IsListOf (IsObjectOf base images) old.objects → Adds (LeadsTo catalog base images pinned a) old new → TurnsPage pinned (page_in base a) turned now → AreWhole base images turned old → AreWhole base images now new
  whole_after pinned turned now a image old new on list adds turns whole b is object = elim ((turns (page_in base b)).0 is) [
    | inl was ↦ adds_keeps _ old new b adds (whole b was object)
    | inr here ↦ adds.has b (list.all b object) (inr (here.1, object, here.0))
  ]

module _ (catalog : List Fields) (base : ℕ) (images written : Images) (pinned : set.FinSet nat_cmp) (sound : AreSoundPages catalog base 16384 images) (others : AreSoundPages catalog base 16384 written) where
  -- what images refer to, in the words of their sheets
  by_image : (b p : ℕ) (image : PageImage) → map.get written p ≡ Some image → RefersOn catalog base image b
      → RootIs (sheets_of written) b ⊎ ((a : ℕ) × (is_object_at base (sheets_of written) a ≡ true) × RefersTo catalog base (sheets_of written) a b)
  by_image b p image on (inl roots) =
      let two : map.get (sheets_of written) 2 ≡ Some image.sheet = sheet_on written 2 image (ap (map.get written) (sym roots.0 ∙ others.home p image on) ∙ on) in
      inl (record { sheet = image.sheet; slot = roots.1.0; on = two; low = roots.1.1; is = roots.1.2 })
  by_image b p image on (inr objects) =
      let object = object_of base written p image objects.1.0 others.home on objects.1.1 in
      let here : map.get written (page_in base objects.1.0) ≡ Some image = ap (map.get written) (page_is base image objects.1.0 objects.1.1 ∙ others.home p image on) ∙ on in
      inr (objects.1.0, object_here catalog base 16384 written objects.1.0 others object, refers_to catalog base written others objects.1.0 b image here objects.1.2)

  pub referred : (b : ℕ) → IsObjectOf base images b → RefersFrom catalog base written b → IsReferredTo catalog base (before_of images written pinned) b
  referred b object (p, image, on, refers) = (object_here catalog base 16384 images b sound object, by_image b p image on refers)

  from_by : (b : ℕ) → RootIs (sheets_of written) b ⊎ ((a : ℕ) × (is_object_at base (sheets_of written) a ≡ true) × RefersTo catalog base (sheets_of written) a b) → RefersFrom catalog base written b
  from_by b (inl roots) =
      let at = image_on written 2 roots.sheet roots.on in
      (2, at.0, at.1, inl (others.home 2 at.0 at.1, (roots.slot, roots.low, ap (λ (s : Sheet). get_or s.words (2 + roots.slot) 0) at.2 ∙ roots.is)))
  from_by b (inr (a, is, refers)) =
      let object = object_there catalog base 16384 written a others is in
      (page_in base a, object.image, object.on, inr (not_roots object, (a, object.begins, refers_in catalog base written others a b object.image object.on refers)))
    where
      not_roots : (object : IsObjectOf base written a) → object.image.page ≡ 2 → ⊥
      not_roots object is_ = (objects_of catalog (is_memory_reference base 16384) object.image.page object.image.sheet (word_in base a) (others.form (page_in base a) object.image object.on) (start_of base object.image a object.begins)).0 is_

  pub referred_from : (b : ℕ) → IsReferredTo catalog base (before_of images written pinned) b → IsObjectOf base images b × RefersFrom catalog base written b
  referred_from b (of_space, by) = (object_there catalog base 16384 images b sound of_space, from_by b by)

  -- what a promoted object leads to is promoted
  pub promotes : (a b : ℕ) → IsObjectOf base images b → Promoted catalog base (before_of images written pinned) a → LeadsTo catalog base images pinned a b → Promoted catalog base (before_of images written pinned) b
  promotes a b object member leads = next a b member (object_here catalog base 16384 images b sound object, by leads)
    where
      by : LeadsTo catalog base images pinned a b → RefersTo catalog base (sheets_of images) a b ⊎ ((is_pinned base (before_of images written pinned) a ≡ true) × (page_in base b ≡ page_in base a))
      by (inl r) = inl r
      by (inr p) = inr (p.0, p.2)

  pub brings : (a b : ℕ) → BringsAlong catalog base (before_of images written pinned) a b → IsObjectOf base images b × LeadsTo catalog base images pinned a b
  brings a b (of_space, by) = (object_there catalog base 16384 images b sound of_space, to by)
    where
      to : RefersTo catalog base (sheets_of images) a b ⊎ ((is_pinned base (before_of images written pinned) a ≡ true) × (page_in base b ≡ page_in base a)) → LeadsTo catalog base images pinned a b
      to (inl r) = inl r
      to (inr p) = inr (p.0, object_there catalog base 16384 images b sound of_space, p.1)

-- the state of the work list after so many finds have been followed
pub record IsPromoting (catalog : List Fields) (base : ℕ) (images written : Images) (pinned : set.FinSet nat_cmp) (objects : List ℕ) (found : Finds) (turned : set.FinSet nat_cmp) (done : ℕ) : Type 0 where
  pub same : found.objects ≡ objects
  pub spread : IsSpread (Promoted catalog base (before_of images written pinned)) (LeadsTo catalog base images pinned) found 0 done
  pub begun : (b : ℕ) → IsReferredTo catalog base (before_of images written pinned) b → Contains found.list b
  pub whole : AreWhole base images turned found
  pub turns : (p : ℕ) → set.contains turned p ≡ true → Turns catalog base (before_of images written pinned) p
  pub all : (k : ℕ) → k < done → k < length found.list → set.contains pinned (page_in base (get_or found.list k 0)) ≡ true → set.contains turned (page_in base (get_or found.list k 0)) ≡ true
  pub low : done ≤ length found.list

module _ (catalog : List Fields) (base : ℕ) (images written : Images) (pinned : set.FinSet nat_cmp) (sound : AreSoundPages catalog base 16384 images) (others : AreSoundPages catalog base 16384 written)
    (objects : List ℕ) (list : IsListOf (IsObjectOf base images) objects) where
  pub promoting_none : (old new : Finds) → old.objects ≡ objects → ((a : ℕ) → Contains old.list a → ⊥) → Adds (RefersFrom catalog base written) old new → IsPromoting catalog base images written pinned objects new set.empty 0
  promoting_none old new same nothing adds = record {
    same = adds.objects ∙ same;
    spread = spread_none _ _ new 0 (λ a is. elim (adds.only a is) [
      | inl was ↦ absurd (nothing a was)
      | inr by ↦ begin a (referred catalog base images written pinned sound others a (list.only a (subst (λ xs. Contains xs a) same by.0)) by.1)
    ]);
    begun = λ b is. (let at = referred_from catalog base images written pinned sound others b is in adds.has b (subst (λ xs. Contains xs b) (sym same) (list.all b at.0)) at.1);
    whole = λ b is object. absurd (false≢true (sym (contains-empty nat_cmp (page_in base b)) ∙ is));
    turns = λ p is. absurd (false≢true (sym (contains-empty nat_cmp p) ∙ is));
    all = λ k low long is. absurd (omega arith);
    low = omega arith;
  }

  pub promoting_more : (found new : Finds) (turned now : set.FinSet nat_cmp) (done : ℕ) → IsPromoting catalog base images written pinned objects found turned done → done < length found.list
      → Adds (LeadsTo catalog base images pinned (get_or found.list done 0)) found new → TurnsPage pinned (page_in base (get_or found.list done 0)) turned now → AreWhole base images now new
      → IsPromoting catalog base images written pinned objects new now (done + 1)
  promoting_more found new turned now done state low adds turns whole = record {
    same = adds.objects ∙ state.same;
    spread = spread_more _ _ found new 0 done state.spread low adds (λ b there member leads.
        promotes catalog base images written pinned sound others (get_or found.list done 0) b (list.only b (subst (λ xs. Contains xs b) state.same there)) member leads);
    begun = λ b is. adds_keeps _ found new b adds (state.begun b is);
    whole = whole;
    turns = turning;
    all = all_now;
    low = (let more = no_fewer _ found new adds in omega arith);
  }
    where
      member : Promoted catalog base (before_of images written pinned) (get_or found.list done 0)
      member = state.spread.only (get_or found.list done 0) (Contains-get_or found.list done 0 low)

      turning : (p : ℕ) → set.contains now p ≡ true → Turns catalog base (before_of images written pinned) p
      turning p is = elim ((turns p).0 is) [
        | inl was ↦ state.turns p was
        | inr here ↦ (ap (set.contains pinned) here.0 ∙ here.1, (get_or found.list done 0, sym here.0, member))
      ]

      at : (k : ℕ) → k < length found.list → get_or new.list k 0 ≡ get_or found.list k 0
      at k low_ = place_kept _ found new k adds low_

      all_now : (k : ℕ) → k < done + 1 → k < length new.list → set.contains pinned (page_in base (get_or new.list k 0)) ≡ true → set.contains now (page_in base (get_or new.list k 0)) ≡ true
      all_now k until long is = elim (cases_eq k done) [
        | inl same ↦ (
            let e : get_or new.list k 0 ≡ get_or found.list done 0 = ap (λ j. get_or new.list j 0) same ∙ at done low in
            (turns (page_in base (get_or new.list k 0))).1 (inr (ap (page_in base) e, sym (ap (λ a. set.contains pinned (page_in base a)) e) ∙ is)))
        | inr apart ↦ (
            let e : get_or new.list k 0 ≡ get_or found.list k 0 = at k (omega arith) in
            (turns (page_in base (get_or new.list k 0))).1 (inl (ap (λ a. set.contains turned (page_in base a)) e ∙ state.all k (omega arith) (omega arith) (sym (ap (λ a. set.contains pinned (page_in base a)) e) ∙ is))))
      ]

  pub promoting_all : (found : Finds) (turned : set.FinSet nat_cmp) (done : ℕ) → IsPromoting catalog base images written pinned objects found turned done → length found.list ≤ done
      → AreFound (Promoted catalog base (before_of images written pinned)) found
  promoting_all found turned done state end = record {
    only = state.spread.only;
    all = complete (Promoted catalog base (before_of images written pinned)) _ _ (LeadsTo catalog base images pinned) found done state.spread end state.begun
        (λ a b leads. (let at = brings catalog base images written pinned sound others a b leads in (subst (λ xs. Contains xs b) (sym state.same) (list.all b at.0), at.1)));
  }

  pub turned_all : (found : Finds) (turned : set.FinSet nat_cmp) (done : ℕ) → IsPromoting catalog base images written pinned objects found turned done → length found.list ≤ done
      → AreTurned catalog base (before_of images written pinned) turned
  turned_all found turned done state end p = (state.turns p, back)
    where
      back : Turns catalog base (before_of images written pinned) p → set.contains turned p ≡ true
      back (is, (a, on, member)) = by ((promoting_all found turned done state end).all a member)
        where
          by : Contains found.list a → set.contains turned p ≡ true
          by (k, low, at) =
              let e : page_in base (get_or found.list k 0) ≡ p = ap (page_in base) (get_or_default found.list k 0 a low ∙ at) ∙ on in
              sym (ap (set.contains turned) e) ∙ state.all k (omega arith) low (ap (set.contains pinned) e ∙ is)
