-- Where the references of written pages lead after a pass.
use Rattle.std.proofs.Common.{◌≡◌, ◌≢◌, ◌<◌, ◌+◌, ◌∙◌, ◌⊎◌, ◌||◌, ◌&&◌, inl, inr, ℕ, Bool, true, false, not, List, Option, Some, None, is_some, refl, sym, ap, subst, arith}
use Rattle.std.proofs.lemmas.Bool.{and_from, and_parts, false≢true}
use Rattle.std.specs.Prelude.{slice_get, slice_index}
use Rattle.std.specs.Option.{option_or}
use Rattle.std.specs.FinMap.{get, contains_key}
use Rattle.pm3_core.specs.declared.naming.TheConstants.{BASE}
use Rattle.pm3_types.specs.Fields.{Fields}
use Rattle.pm3_types.specs.Layout.{Sheet, PageImage, address, is_address, is_forwarded, is_start, is_unmoved, page_in, tail_in, type_in, word_in}
use Rattle.pm3_types.specs.Least.Least.{begin, next}
use Rattle.pm3_types.specs.Objects.{is_object_at}
use Rattle.pm3_types.specs.PageForm.{HasForm, IsReferenceIn, is_memory_reference, map_at, tail_at}
use Rattle.pm3_types.specs.PassSets.{Live}
use Rattle.pm3_types.specs.PassShown.{IsCopy}
use Rattle.pm3_types.specs.Shown.{IsKnown}
use Rattle.pm3_types.proofs.Addressing.{is_address-address, page_in-address, word_in-address}
use Rattle.pm3_types.proofs.FormedObjects.{objects_of, whole_start}
use Rattle.pm3_graph.specs.declared.operations.Op.{Op}
use Rattle.pm3_copy.specs.PassLaws.{OthersAreQuiet}
use Rattle.pm3_access.specs.Acts.{space_left}
use Rattle.pm3_access.specs.Holding.{Holding, space_now}
use Rattle.pm3_history.specs.Lawful.{HaveForm}
use Rattle.pm3_history.specs.Named.{book_of}
use Rattle.pm3_history.specs.Persistent.{persistent_book}
use Rattle.pm3_history.specs.State.{State}
use Rattle.pm3_history.proofs.Laying.{some_of, some_none, there_none, one_value, laid_above, laid_below, laid_cases}
use Rattle.pm3_history.proofs.Marking.{refers_below}
use Rattle.pm3_history.proofs.NamedOn.{book_of_named, book_of_has}
use Rattle.pm3_txn.specs.PassCommits.{Marks, PassState, HasPassed, all_before, all_after, before_pass}
use Rattle.pm3_txn.specs.TransactionLaws.{IsSettled}
use Rattle.pm3_txn.specs.Works.{Works, is_own_object, left_book, may_hold}
use Rattle.pm3_txn.proofs.Admitting.{form_by_places, narrow}
use Rattle.pm3_txn.proofs.OwnBooks.{with_own, with_cases}
use Rattle.pm3_txn.proofs.PassAfter.{StandsOn, stands_on, object_at_on, to, dead, quiet, own_before, no_roots}
use Rattle.pm3_txn.proofs.PassBook.{changed_alone, before_left}

-- a test that cannot fail passes
holds : (b : Bool) → (b ≡ false → ⊥) → b ≡ true
holds true never = refl
holds false never = absurd (never refl)

either_of : (a b : Bool) → (a || b) ≡ true → (a ≡ true) ⊎ (b ≡ true)
either_of true b is = inl refl
either_of false b is = inr is

yes_or_no : (b : Bool) → (b ≡ true) ⊎ (b ≡ false)
yes_or_no true = inl refl
yes_or_no false = inr refl

-- word k of the body of the object at an address on a sheet is a reference, and this is it
pub record Refers (catalog : List Fields) (a k w : ℕ) (sheet : Sheet) : Type 0 where
  pub place : IsReferenceIn (map_at catalog sheet (word_in BASE a)) (tail_at sheet (word_in BASE a)) k
  pub word : slice_index sheet.words (word_in BASE a + 2 + k) ≡ w

module _ (others : OthersAreQuiet) (catalog : List Fields) (pages : ℕ) (st : State) (settled : IsSettled catalog st) (h : Holding) (ops : List (Op × ℕ)) (works : Works catalog pages st h ops)
    (m : Marks) (p : PassState) (has : HasPassed catalog pages st h m p) where
  abbrev moved : ℕ → ℕ
  moved = to others catalog pages st settled h ops works m p has

  abbrev lost : ℕ → Type 0
  lost = dead others catalog pages st settled h ops works m p has

  abbrev pub IsOwn : ℕ → Type 0
  IsOwn w = is_some (get (book_of BASE (space_left h.space)) w) ≡ true

  own_object : (w : ℕ) → IsOwn w → is_object_at BASE (space_left h.space) w ≡ true
  own_object w mine =
      let n = some_of (get (book_of BASE (space_left h.space)) w) mine in
      let is = book_of_named BASE (space_left h.space) w n.0 n.1 in
      object_at_on (space_left h.space) w is.sheet is.on is.address is.unmoved

  -- what an object of a written page refers to in the space is on a written page after it
  pub leads : (a k w : ℕ) (was : StandsOn (all_before h p) a) → (lost a → ⊥) → contains_key p.written (page_in BASE (moved a)) ≡ true → Refers catalog a k w was.sheet → IsOwn w
      → contains_key p.written (page_in BASE (moved w)) ≡ true
  leads a k w was live on refers mine = of (laid_cases (space_left h.space) p.changed (page_in BASE a) was.sheet was.on)
    where
      of : (get p.changed (page_in BASE a) ≡ Some was.sheet) ⊎ ((get p.changed (page_in BASE a) ≡ None) × (get (space_left h.space) (page_in BASE a) ≡ Some was.sheet))
          → contains_key p.written (page_in BASE (moved w)) ≡ true
      of (inl changed) = has.carried.persistent w (begin w (
        own_object w mine,
        inr (a, object_at_on p.changed a was.sheet changed was.address was.unmoved, record { sheet = was.sheet; place = k; on = changed; reference = refers.place; is = refers.word }),
      ))
      of (inr (none, own)) = holds (contains_key p.written (page_in BASE (moved w))) (λ off. live (object_at_on (space_left h.space) a was.sheet own was.address was.unmoved, λ alive. by off alive))
        where
          by : contains_key p.written (page_in BASE (moved w)) ≡ false → Live catalog BASE (before_pass h p) a → ⊥
          by off (inl promoted) = false≢true (sym off ∙ has.carried.persistent w (next a w promoted (
            own_object w mine,
            inl (record { sheet = was.sheet; place = k; on = own; reference = refers.place; is = refers.word }),
          )))
          by off (inr kept) = there_none (get p.written (page_in BASE (moved a))) on (has.apart (page_in BASE (moved a)) (has.carried.volatile a kept))

  pub root_leads : (slot w : ℕ) (sheet : Sheet) → slot < 16 → get p.changed 2 ≡ Some sheet → slice_index sheet.words (2 + slot) ≡ w → IsOwn w
      → contains_key p.written (page_in BASE (moved w)) ≡ true
  root_leads slot w sheet low on is mine = has.carried.persistent w (begin w (own_object w mine, inl (record { sheet = sheet; slot = slot; on = on; low = low; is = is })))

  -- what is no object of the space stays
  pub stays : (w : ℕ) → is_some (get (book_of BASE (space_left h.space)) w) ≡ false → moved w ≡ w
  stays w none = of (get (space_left h.space) (page_in BASE w)) refl
    where
      of : (o : Option Sheet) → get (space_left h.space) (page_in BASE w) ≡ o → moved w ≡ w
      of None off = (quiet others catalog pages st settled h ops works m p has w off).0
      of (Some sheet) on = has.carried.addresses.others w never
        where
          never : is_object_at BASE (all_before h p) w ≢ true
          never object =
              let was = stands_on (all_before h p) w object in
              let same : was.sheet ≡ sheet = one_value (get (all_before h p) (page_in BASE w)) was.sheet sheet was.on (own_before others catalog pages st settled h ops works m p has (page_in BASE w) sheet on) in
              let mine = book_of_has BASE (space_left h.space) w (slice_index sheet.words (word_in BASE w + 1))
              (record { sheet = sheet; on = on; address = was.address; unmoved = ap (λ (s : Sheet). is_unmoved s (word_in BASE w)) (sym same) ∙ was.unmoved; named = refl }) in
              false≢true (sym none ∙ ap is_some mine)

  -- a reference before the pass is nil, leads below the high page, or to an object of the space
  abbrev MayBe : ℕ → Type 0
  MayBe w = (w ≡ 0) ⊎ ((page_in BASE w < st.high_page) ⊎ IsOwn w)

  may_of : (w : ℕ) → may_hold pages st h w ≡ true → MayBe w
  may_of w is = of (either_of (is_memory_reference BASE st.high_page w) (is_memory_reference BASE pages w && is_own_object h w) is)
    where
      low : (w ≡ 0) ⊎ (page_in BASE w < st.high_page) → MayBe w
      low (inl nil) = inl nil
      low (inr below) = inr (inl below)

      of : (is_memory_reference BASE st.high_page w ≡ true) ⊎ ((is_memory_reference BASE pages w && is_own_object h w) ≡ true) → MayBe w
      of (inl form) = low (refers_below BASE st.high_page w form)
      of (inr own) = inr (inr (and_parts (is_memory_reference BASE pages w) (is_own_object h w) own).1)

  known_may : (w : ℕ) → IsKnown (left_book st h) w → MayBe w
  known_may w (inl nil) = inl nil
  known_may w (inr there) = (let n = some_of (get (left_book st h) w) there in of n.0 (with_cases st (space_left h.space) w n.0 n.1))
    where
      of : (n : ℕ) → (get (book_of BASE (space_left h.space)) w ≡ Some n) ⊎ ((get (book_of BASE (space_left h.space)) w ≡ None) × (get (persistent_book BASE st) w ≡ Some n)) → MayBe w
      of n (inl own) = inr (inr (ap is_some own))
      of n (inr old) = inr (inl (settled.bounded.pages w n old.1))

  -- a changed page is held alone, and its references are such
  changed_form : (q : ℕ) (sheet : Sheet) → get p.changed q ≡ Some sheet → HasForm catalog (may_hold pages st h) q sheet
  changed_form q sheet on =
      let x = changed_alone catalog pages st settled h ops works m p has q sheet on in
      let there : option_or (get h.pages.left q) None ≡ Some x.0 = ap (λ (o : Option PageImage). option_or o None) x.1 in
      subst (λ (s : Sheet). HasForm catalog (may_hold pages st h) q s) x.2
      (subst (λ (n : ℕ). HasForm catalog (may_hold pages st h) n x.0.sheet) (works.places.home q x.0 (ap (λ (o : Option PageImage). option_or o (space_now h.space q)) x.1)) (works.sound q x.0 there))

  refers_may : (a k w : ℕ) (was : StandsOn (all_before h p) a) → Refers catalog a k w was.sheet → MayBe w
  refers_may a k w was refers = of (laid_cases (space_left h.space) p.changed (page_in BASE a) was.sheet was.on)
    where
      of : (get p.changed (page_in BASE a) ≡ Some was.sheet) ⊎ ((get p.changed (page_in BASE a) ≡ None) × (get (space_left h.space) (page_in BASE a) ≡ Some was.sheet)) → MayBe w
      of (inl changed) =
          let starts = (and_parts (is_start was.sheet (word_in BASE a)) (not (is_forwarded (slice_index was.sheet.words (word_in BASE a)))) was.unmoved).0 in
          let form = (objects_of catalog (may_hold pages st h) (page_in BASE a) was.sheet (word_in BASE a) (changed_form (page_in BASE a) was.sheet changed) starts).1 in
          subst MayBe refers.word (may_of _ (form.references (word_in BASE a) k starts refers.place))
      of (inr (none, own)) =
          let mine = book_of_has BASE (space_left h.space) a (slice_index was.sheet.words (word_in BASE a + 1))
          (record { sheet = was.sheet; on = own; address = was.address; unmoved = was.unmoved; named = refl }) in
          subst MayBe refers.word (known_may _ (works.fits.references a _ k was.sheet (with_own st (space_left h.space) a _ mine)
          (before_left catalog pages st settled h ops works m p has (page_in BASE a) was.sheet was.on) refers.place))

  -- after it such a word leads below the new high page, where what is of the space is on a written page
  below : (w : ℕ) → MayBe w → (IsOwn w → contains_key p.written (page_in BASE (moved w)) ≡ true) → (moved w ≡ 0) ⊎ (page_in BASE (moved w) < m.high_page)
  below w may lead = of (yes_or_no (is_some (get (book_of BASE (space_left h.space)) w)))
    where
      by : moved w ≡ w → (is_some (get (book_of BASE (space_left h.space)) w) ≡ false) → MayBe w → (moved w ≡ 0) ⊎ (page_in BASE (moved w) < m.high_page)
      by same none (inl nil) = inl (same ∙ nil)
      by same none (inr (inl low)) = inr (let rise = has.pages_rise in let at : page_in BASE (moved w) ≡ page_in BASE w = ap (page_in BASE) same in omega (arith, low, rise, at))
      by same none (inr (inr own)) = absurd (false≢true (sym none ∙ own))

      of : IsOwn w ⊎ (is_some (get (book_of BASE (space_left h.space)) w) ≡ false) → (moved w ≡ 0) ⊎ (page_in BASE (moved w) < m.high_page)
      of (inl own) = inr (has.high (page_in BASE (moved w)) (lead own))
      of (inr none) = by (stays w none) none may

  -- a reference of an object after the pass is the new address of one that it had
  pub copied : (a b k : ℕ) (sheet : Sheet) (was : StandsOn (all_before h p) a) → (lost a → ⊥) → moved a ≡ b → get (all_after p) (page_in BASE b) ≡ Some sheet
      → IsReferenceIn (map_at catalog sheet (word_in BASE b)) (tail_at sheet (word_in BASE b)) k
      → (w : ℕ) × Refers catalog a k w was.sheet × (slice_index sheet.words (word_in BASE b + 2 + k) ≡ moved w)
  copied a b k sheet was live at on place = (slice_index was.sheet.words (word_in BASE a + 2 + k), record { place = before; word = refl }, after)
    where
      copy : (is_address BASE (moved a) ≡ true)
          × ((new : Sheet) × (get (all_after p) (page_in BASE (moved a)) ≡ Some new) × IsCopy catalog moved was.sheet (word_in BASE a) new (word_in BASE (moved a)))
      copy = has.carried.carried.objects a was.sheet (object_at_on (all_before h p) a was.sheet was.on was.address was.unmoved) live was.on

      same : copy.1.0 ≡ sheet
      same = one_value (get (all_after p) (page_in BASE b)) copy.1.0 sheet (ap (λ (c : ℕ). get (all_after p) (page_in BASE c)) (sym at) ∙ copy.1.1) on

      here : (i : ℕ) → slice_index copy.1.0.words (word_in BASE (moved a) + i) ≡ slice_index sheet.words (word_in BASE b + i)
      here i = ap (λ (s : Sheet). slice_index s.words (word_in BASE (moved a) + i)) same ∙ ap (λ (c : ℕ). slice_index sheet.words (word_in BASE c + i)) at

      head : slice_index sheet.words (word_in BASE b) ≡ slice_index was.sheet.words (word_in BASE a)
      head = sym (ap (λ (s : Sheet). slice_index s.words (word_in BASE (moved a))) same ∙ ap (λ (c : ℕ). slice_index sheet.words (word_in BASE c)) at) ∙ copy.1.2.head

      before : IsReferenceIn (map_at catalog was.sheet (word_in BASE a)) (tail_at was.sheet (word_in BASE a)) k
      before = subst (λ (w : ℕ). IsReferenceIn (slice_get catalog (type_in w)) (tail_in w) k) head place

      after : slice_index sheet.words (word_in BASE b + 2 + k) ≡ moved (slice_index was.sheet.words (word_in BASE a + 2 + k))
      after = sym (ap (λ (s : Sheet). slice_index s.words (word_in BASE (moved a) + 2 + k)) same ∙ ap (λ (c : ℕ). slice_index sheet.words (word_in BASE c + 2 + k)) at) ∙ copy.1.2.references k before

  -- and a root slot after it has the new address of what it had
  pub root_copied : (slot : ℕ) (sheet : Sheet) → slot < 16 → get (all_after p) 2 ≡ Some sheet
      → (old : Sheet) × (get p.changed 2 ≡ Some old) × (slice_index sheet.words (2 + slot) ≡ moved (slice_index old.words (2 + slot)))
  root_copied slot sheet low on = of (get p.changed 2) refl
    where
      none : get (space_left h.space) 2 ≡ None
      none = no_roots others catalog pages st settled h ops works m p has

      of : (o : Option Sheet) → get p.changed 2 ≡ o → (old : Sheet) × (get p.changed 2 ≡ Some old) × (slice_index sheet.words (2 + slot) ≡ moved (slice_index old.words (2 + slot)))
      of None off = absurd (some_none (get (all_after p) 2) sheet on (has.carried.carried.no_roots (laid_below (space_left h.space) p.changed 2 off ∙ none)))
      of (Some old) there =
          let copy = has.carried.carried.roots old (laid_above (space_left h.space) p.changed 2 old there) in
          let same : copy.0 ≡ sheet = one_value (get (all_after p) 2) copy.0 sheet copy.1 on in
          (old, there, ap (λ (s : Sheet). slice_index s.words (2 + slot)) (sym same) ∙ copy.2 slot low)

  -- what is written has the form in a store of as many pages as the high page
  pub written_form : HaveForm catalog BASE m.high_page p.written
  written_form q sheet on =
      let form = has.written_form q sheet on in (
        form.0,
        has.high q (ap is_some on),
        form_by_places catalog (is_memory_reference BASE pages) (is_memory_reference BASE m.high_page) q sheet
            (λ slot two low is. narrow BASE pages m.high_page _ is (root slot two low))
            (λ s k other starts place is. narrow BASE pages m.high_page _ is (object s k starts place))
            form.2,
      )
    where
      is_low : (w v : ℕ) → v ≡ moved w → (moved w ≡ 0) ⊎ (page_in BASE (moved w) < m.high_page) → (v ≡ 0) ⊎ (page_in BASE v < m.high_page)
      is_low w v is low = subst (λ (x : ℕ). (x ≡ 0) ⊎ (page_in BASE x < m.high_page)) (sym is) low

      now : get (all_after p) q ≡ Some sheet
      now = laid_above p.after p.written q sheet on

      root : (slot : ℕ) → q ≡ 2 → slot < 16 → (slice_index sheet.words (2 + slot) ≡ 0) ⊎ (page_in BASE (slice_index sheet.words (2 + slot)) < m.high_page)
      root slot two low =
          let was = root_copied slot sheet low (ap (get (all_after p)) (sym two) ∙ now) in
          let w : ℕ = slice_index was.0.words (2 + slot) in
          is_low w (slice_index sheet.words (2 + slot)) was.2
          (below w (may_of w (((changed_form 2 was.0 was.1).roots refl).roots slot low)) (root_leads slot w was.0 low was.1 refl))

      object : (s k : ℕ) → is_start sheet s ≡ true → IsReferenceIn (map_at catalog sheet s) (tail_at sheet s) k
          → (slice_index sheet.words (s + 2 + k) ≡ 0) ⊎ (page_in BASE (slice_index sheet.words (s + 2 + k)) < m.high_page)
      object s k starts place =
          let whole = whole_start catalog (is_memory_reference BASE pages) q sheet s (has.written_form q sheet on).2 starts in
          let low : s < 512 = (let w = whole.within in let n = whole.size in omega (arith, w, n)) in
          let b : ℕ = address BASE q s in
          let page : page_in BASE b ≡ q = page_in-address BASE q s low in
          let word : word_in BASE b ≡ s = word_in-address BASE q s low in
          let there : get (all_after p) (page_in BASE b) ≡ Some sheet = ap (get (all_after p)) page ∙ now in
          let unmoved : is_unmoved sheet (word_in BASE b) ≡ true = ap (is_unmoved sheet) word ∙ and_from (is_start sheet s) (not (is_forwarded (slice_index sheet.words s))) starts (ap not whole.unmoved) in
          let from = has.carried.only b (object_at_on (all_after p) b sheet there (is_address-address BASE q s) unmoved) in
          let was = stands_on (all_before h p) from.0 from.2 in
          let ref = copied from.0 b k sheet was from.3 from.1 there (subst (λ (t : ℕ). IsReferenceIn (map_at catalog sheet t) (tail_at sheet t) k) (sym word) place) in
          let written : contains_key p.written (page_in BASE (moved from.0)) ≡ true = ap (λ (c : ℕ). contains_key p.written (page_in BASE c)) from.1 ∙ ap (contains_key p.written) page ∙ ap is_some on in
          is_low ref.0 (slice_index sheet.words (s + 2 + k)) (ap (λ (t : ℕ). slice_index sheet.words (t + 2 + k)) (sym word) ∙ ref.2)
          (below ref.0 (refers_may from.0 k ref.0 was ref.1) (leads from.0 k ref.0 was from.3 written ref.1))
