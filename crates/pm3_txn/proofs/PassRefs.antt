-- Where references lead after a pass, whatever the files opened to.
use Rattle.std.proofs.Common.{◌≡◌, ◌≢◌, ◌+◌, ◌<◌, ◌||◌, ◌&&◌, ◌∙◌, ◌⊎◌, inl, inr, ℕ, Bool, true, false, not, List, Option, Some, None, is_some, refl, sym, ap, subst, arith}
use Rattle.std.proofs.lemmas.Bool.{and_from, and_parts, false≢true}
use Rattle.std.specs.Prelude.{slice_index}
use Rattle.std.specs.FinMap.{get, contains_key}
use Rattle.std.specs.FinSet as set
use Rattle.std.specs.Ordering.{nat_cmp}
use Rattle.pm3_core.specs.declared.naming.TheConstants.{BASE}
use Rattle.pm3_types.specs.Fields.{Fields}
use Rattle.pm3_types.specs.Layout.{Sheet, address, is_address, is_forwarded, is_start, is_unmoved, page_in, word_in}
use Rattle.pm3_types.specs.Least.Least.{begin, next}
use Rattle.pm3_types.specs.Objects.{RefersTo, is_object_at}
use Rattle.pm3_types.specs.PageForm.{HasForm, IsReferenceIn, is_memory_reference, map_at, tail_at}
use Rattle.pm3_types.specs.PassMoves.{moved_by}
use Rattle.pm3_types.specs.PassSets.{Before, IsDead, Live}
use Rattle.pm3_types.specs.Shown.{Images}
use Rattle.pm3_types.proofs.Addressing.{is_address-address, page_in-address, word_in-address}
use Rattle.pm3_types.proofs.FormedObjects.{objects_of, whole_start}
use Rattle.pm3_copy.specs.CarriedOut.{IsCarriedOut}
use Rattle.pm3_copy.specs.PassLaws.{OthersAreQuiet}
use Rattle.pm3_history.specs.Laid.{laid}
use Rattle.pm3_history.proofs.Laying.{laid_above, laid_below, laid_cases, none_if, some_none, there_none}
use Rattle.pm3_txn.proofs.Admitting.{form_by_places}
use Rattle.pm3_txn.proofs.PassAfter.{StandsOn, object_at_on, stands_on}
use Rattle.pm3_txn.proofs.PassCopies.{Refers, copied_from, root_from}

-- an object begins at a word of a sheet, if there is one
abbrev pub starts_at : Option Sheet → ℕ → Bool
starts_at None s = false
starts_at (Some sheet) s = is_start sheet s

-- the word leads to an object of these images, or it passes a test
abbrev pub leads_by : ℕ → (ℕ → Bool) → Images → ℕ → Bool
leads_by pages usable images w = usable w || (is_memory_reference BASE pages w && starts_at (get images (page_in BASE w)) (word_in BASE w))

either_of : (a b : Bool) → (a || b) ≡ true → (a ≡ true) ⊎ (b ≡ true)
either_of true b is = inl refl
either_of false b is = inr is

-- what the images were before a pass, and what it left
module _ (others : OthersAreQuiet) (catalog : List Fields) (pages : ℕ) (space changed : Images) (pinned : set.FinSet nat_cmp) (fresh : List ℕ) (after written : Images)
    (carried : IsCarriedOut catalog BASE (record { space = space; written = changed; pinned = pinned }) fresh (laid space changed) (laid after written) after written)
    (apart : (q : ℕ) → contains_key after q ≡ true → get written q ≡ None) (apart_before : (q : ℕ) → contains_key space q ≡ true → get changed q ≡ None) (no_roots : get space 2 ≡ None)
    (usable : ℕ → Bool) (bare : (w : ℕ) → usable w ≡ true → (w ≡ 0) ⊎ (get space (page_in BASE w) ≡ None))
    (address_of : (w : ℕ) → is_memory_reference BASE pages w ≡ true → (w ≡ 0) ⊎ (is_address BASE w ≡ true))
    (nil_use : usable 0 ≡ true)
    (form : (q : ℕ) (sheet : Sheet) → get (laid space changed) q ≡ Some sheet → HasForm catalog (leads_by pages usable space) q sheet) where
  abbrev before : Before
  before = record { space = space; written = changed; pinned = pinned }

  abbrev moved : ℕ → ℕ
  moved = moved_by carried.moves

  -- a word that is no reference to the space stays
  use_stays : (w : ℕ) → usable w ≡ true → moved w ≡ w
  use_stays w is = of (bare w is)
    where
      of : (w ≡ 0) ⊎ (get space (page_in BASE w) ≡ None) → moved w ≡ w
      of (inl nil) = ap moved nil ∙ carried.addresses.zero ∙ sym nil
      of (inr off) = (others catalog BASE before fresh carried.moves carried.are (page_in BASE w) off w refl).0

  -- a word of an image before the pass stays as it is, or leads to an object of the space
  abbrev pub MayBe : ℕ → Type 0
  MayBe w = (usable w ≡ true) ⊎ (is_object_at BASE space w ≡ true)

  own_object : (w : ℕ) → is_memory_reference BASE pages w ≡ true → starts_at (get space (page_in BASE w)) (word_in BASE w) ≡ true → MayBe w
  own_object w ref begins = of (address_of w ref)
    where
      on : (o : Option Sheet) → get space (page_in BASE w) ≡ o → is_address BASE w ≡ true → is_object_at BASE space w ≡ true
      on None none address = absurd (false≢true (sym (ap (λ (o : Option Sheet). starts_at o (word_in BASE w)) none) ∙ begins))
      on (Some sheet) there address =
          let all : get (laid space changed) (page_in BASE w) ≡ Some sheet = laid_below space changed (page_in BASE w) (apart_before (page_in BASE w) (ap is_some there)) ∙ there in
          let starts : is_start sheet (word_in BASE w) ≡ true = sym (ap (λ (o : Option Sheet). starts_at o (word_in BASE w)) there) ∙ begins in
          let whole = whole_start catalog (leads_by pages usable space) (page_in BASE w) sheet (word_in BASE w) (form (page_in BASE w) sheet all) starts in
          object_at_on space w sheet there address
          (and_from (is_start sheet (word_in BASE w)) (not (is_forwarded (slice_index sheet.words (word_in BASE w)))) starts (ap not whole.unmoved))

      of : (w ≡ 0) ⊎ (is_address BASE w ≡ true) → MayBe w
      of (inl nil) = inl (ap usable nil ∙ nil_use)
      of (inr address) = inr (on (get space (page_in BASE w)) refl address)

  may_of : (w : ℕ) → leads_by pages usable space w ≡ true → MayBe w
  may_of w is = of (either_of (usable w) (is_memory_reference BASE pages w && starts_at (get space (page_in BASE w)) (word_in BASE w)) is)
    where
      of : (usable w ≡ true) ⊎ ((is_memory_reference BASE pages w && starts_at (get space (page_in BASE w)) (word_in BASE w)) ≡ true) → MayBe w
      of (inl uses) = inl uses
      of (inr both) = let parts = and_parts (is_memory_reference BASE pages w) (starts_at (get space (page_in BASE w)) (word_in BASE w)) both in own_object w parts.0 parts.1

  -- a reference of an object before the pass
  refers_may : (a k w : ℕ) (was : StandsOn (laid space changed) a) → Refers catalog a k w was.sheet → MayBe w
  refers_may a k w was refers =
      let starts = (and_parts (is_start was.sheet (word_in BASE a)) (not (is_forwarded (slice_index was.sheet.words (word_in BASE a)))) was.unmoved).0 in
      let objects = (objects_of catalog (leads_by pages usable space) (page_in BASE a) was.sheet (word_in BASE a) (form (page_in BASE a) was.sheet was.on) starts).1 in
      subst MayBe refers.word (may_of (slice_index was.sheet.words (word_in BASE a + 2 + k)) (objects.references (word_in BASE a) k starts refers.place))

  -- what lives is promoted or kept
  alive : (a : ℕ) → is_object_at BASE space a ≡ true → (IsDead catalog BASE before a → ⊥) → (Live catalog BASE before a → ⊥) → ⊥
  alive a object live none = live (object, none)

  -- where an object stands on a written page after the pass, what it refers to in the space was promoted
  leads_written : (a k w : ℕ) (was : StandsOn (laid space changed) a) → (IsDead catalog BASE before a → ⊥) → contains_key written (page_in BASE (moved a)) ≡ true → Refers catalog a k w was.sheet
      → is_object_at BASE space w ≡ true → contains_key written (page_in BASE (moved w)) ≡ true
  leads_written a k w was live on refers mine = of (laid_cases space changed (page_in BASE a) was.sheet was.on)
    where
      holds : (b : Bool) → (b ≡ false → ⊥) → b ≡ true
      holds true never = refl
      holds false never = absurd (never refl)

      of : (get changed (page_in BASE a) ≡ Some was.sheet) ⊎ ((get changed (page_in BASE a) ≡ None) × (get space (page_in BASE a) ≡ Some was.sheet)) → contains_key written (page_in BASE (moved w)) ≡ true
      of (inl there) = carried.persistent w (begin w (
        mine,
        inr (a, object_at_on changed a was.sheet there was.address was.unmoved, record { sheet = was.sheet; place = k; on = there; reference = refers.place; is = refers.word }),
      ))
      of (inr (none, own)) = holds (contains_key written (page_in BASE (moved w))) (λ off. alive a (object_at_on space a was.sheet own was.address was.unmoved) live (λ lives. by off lives))
        where
          by : contains_key written (page_in BASE (moved w)) ≡ false → Live catalog BASE before a → ⊥
          by off (inl promoted) = false≢true (sym off ∙ carried.persistent w (next a w promoted (
            mine,
            inl (record { sheet = was.sheet; place = k; on = own; reference = refers.place; is = refers.word }),
          )))
          by off (inr kept) = there_none (get written (page_in BASE (moved a))) on (apart (page_in BASE (moved a)) (carried.volatile a kept))

  -- where it stands on a page of the space, that was promoted or kept
  leads_space : (a k w : ℕ) (was : StandsOn (laid space changed) a) → (IsDead catalog BASE before a → ⊥) → contains_key after (page_in BASE (moved a)) ≡ true → Refers catalog a k w was.sheet
      → is_object_at BASE space w ≡ true → (contains_key written (page_in BASE (moved w)) ≡ false → contains_key after (page_in BASE (moved w)) ≡ true) × (IsDead catalog BASE before w → ⊥)
  leads_space a k w was live on refers mine = (
    λ off. holds (contains_key after (page_in BASE (moved w))) (λ none. from (λ lives. by off none lives)),
    λ dead. from (λ lives. lost dead lives),
  )
    where
      holds : (b : Bool) → (b ≡ false → ⊥) → b ≡ true
      holds true never = refl
      holds false never = absurd (never refl)

      -- it is one of the space, since no changed page is one of the space then
      own : get space (page_in BASE a) ≡ Some was.sheet
      own = of (laid_cases space changed (page_in BASE a) was.sheet was.on)
        where
          of : (get changed (page_in BASE a) ≡ Some was.sheet) ⊎ ((get changed (page_in BASE a) ≡ None) × (get space (page_in BASE a) ≡ Some was.sheet)) → get space (page_in BASE a) ≡ Some was.sheet
          of (inr there) = there.1
          of (inl there) = absurd (there_none (get written (page_in BASE (moved a))) stays (apart (page_in BASE (moved a)) on))
            where
              off : get space (page_in BASE a) ≡ None
              off = none_if (get space (page_in BASE a)) (λ sheet s. some_none (get changed (page_in BASE a)) was.sheet there (apart_before (page_in BASE a) (ap is_some s)))

              stays : contains_key written (page_in BASE (moved a)) ≡ true
              stays = ap (λ (c : ℕ). contains_key written (page_in BASE c)) (others catalog BASE before fresh carried.moves carried.are (page_in BASE a) off a refl).0
                  ∙ (carried.written_pages (page_in BASE a)).1 (inl (ap is_some there))

      from : (Live catalog BASE before a → ⊥) → ⊥
      from = alive a (object_at_on space a was.sheet own was.address was.unmoved) live

      refers_to : RefersTo catalog BASE space a w
      refers_to = record { sheet = was.sheet; place = k; on = own; reference = refers.place; is = refers.word }

      by : contains_key written (page_in BASE (moved w)) ≡ false → contains_key after (page_in BASE (moved w)) ≡ false → Live catalog BASE before a → ⊥
      by off none (inl promoted) = false≢true (sym off ∙ carried.persistent w (next a w promoted (mine, inl refers_to)))
      by off none (inr kept) = false≢true (sym none ∙ carried.volatile w (next a w kept (mine, refers_to, λ promoted. false≢true (sym off ∙ carried.persistent w promoted))))

      lost : IsDead catalog BASE before w → Live catalog BASE before a → ⊥
      lost dead (inl promoted) = dead.1 (inl (next a w promoted (mine, inl refers_to)))
      lost dead (inr kept) = dead.1 (inr (next a w kept (mine, refers_to, λ promoted. dead.1 (inl promoted))))

  -- a written page after the pass
  module _ (new_use : ℕ → Bool) (still : (w : ℕ) → usable w ≡ true → new_use w ≡ true)
      (wide : ℕ → Bool) (on_written : (w : ℕ) → wide w ≡ true → contains_key written (page_in BASE w) ≡ true → new_use w ≡ true) where
    on_page : (w : ℕ) → MayBe w → (is_object_at BASE space w ≡ true → contains_key written (page_in BASE (moved w)) ≡ true) → (v : ℕ) → v ≡ moved w → wide v ≡ true → new_use v ≡ true
    on_page w (inl uses) lead v is ref = ap new_use (is ∙ use_stays w uses) ∙ still w uses
    on_page w (inr mine) lead v is ref = on_written v ref (ap (λ (c : ℕ). contains_key written (page_in BASE c)) is ∙ lead mine)

    pub written_use : (q : ℕ) (sheet : Sheet) → get written q ≡ Some sheet → HasForm catalog wide q sheet → HasForm catalog new_use q sheet
    written_use q sheet on wide_form = form_by_places catalog wide new_use q sheet root (λ s k other starts place ref. object s k starts place ref) wide_form
      where
        now : get (laid after written) q ≡ Some sheet
        now = laid_above after written q sheet on

        root : (slot : ℕ) → q ≡ 2 → slot < 16 → wide (slice_index sheet.words (2 + slot)) ≡ true → new_use (slice_index sheet.words (2 + slot)) ≡ true
        root slot two low ref =
            let was = root_from catalog before fresh (laid space changed) (laid after written) after written carried slot sheet low (ap (get (laid after written)) (sym two) ∙ now) in
            let w : ℕ = slice_index was.0.words (2 + slot) in
            on_page w (may_of w (((form 2 was.0 was.1).roots refl).roots slot low)) (λ mine. carried.persistent w (begin w (mine, inl (record { sheet = was.0; slot = slot; on = old was.0 was.1; low = low; is = refl }))))
            (slice_index sheet.words (2 + slot)) was.2 ref
          where
            old : (o : Sheet) → get (laid space changed) 2 ≡ Some o → get changed 2 ≡ Some o
            old o there = of (laid_cases space changed 2 o there)
              where
                of : (get changed 2 ≡ Some o) ⊎ ((get changed 2 ≡ None) × (get space 2 ≡ Some o)) → get changed 2 ≡ Some o
                of (inl is) = is
                of (inr is) = absurd (some_none (get space 2) o is.1 no_roots)

        object : (s k : ℕ) → is_start sheet s ≡ true → IsReferenceIn (map_at catalog sheet s) (tail_at sheet s) k → wide (slice_index sheet.words (s + 2 + k)) ≡ true
            → new_use (slice_index sheet.words (s + 2 + k)) ≡ true
        object s k starts place ref =
            let whole = whole_start catalog wide q sheet s wide_form starts in
            let low : s < 512 = (let w = whole.within in let n = whole.size in omega (arith, w, n)) in
            let b : ℕ = address BASE q s in
            let page : page_in BASE b ≡ q = page_in-address BASE q s low in
            let word : word_in BASE b ≡ s = word_in-address BASE q s low in
            let there : get (laid after written) (page_in BASE b) ≡ Some sheet = ap (get (laid after written)) page ∙ now in
            let unmoved : is_unmoved sheet (word_in BASE b) ≡ true = ap (is_unmoved sheet) word ∙ and_from (is_start sheet s) (not (is_forwarded (slice_index sheet.words s))) starts (ap not whole.unmoved) in
            let from = carried.only b (object_at_on (laid after written) b sheet there (is_address-address BASE q s) unmoved) in
            let was = stands_on (laid space changed) from.0 from.2 in
            let copy = copied_from catalog before fresh (laid space changed) (laid after written) after written carried from.0 b k sheet was from.3 from.1 there
            (subst (λ (t : ℕ). IsReferenceIn (map_at catalog sheet t) (tail_at sheet t) k) (sym word) place) in
            let at : contains_key written (page_in BASE (moved from.0)) ≡ true = ap (λ (c : ℕ). contains_key written (page_in BASE c)) from.1 ∙ ap (contains_key written) page ∙ ap is_some on in
            on_page copy.0 (refers_may from.0 k copy.0 was copy.1) (leads_written from.0 k copy.0 was from.3 at copy.1)
            (slice_index sheet.words (s + 2 + k)) (ap (λ (t : ℕ). slice_index sheet.words (t + 2 + k)) (sym word) ∙ copy.2) ref

    -- a page of the space after it
    pub space_use_after : (q : ℕ) (sheet : Sheet) → get after q ≡ Some sheet → q ≢ 2
        → ((w : ℕ) → wide w ≡ true → starts_at (get after (page_in BASE w)) (word_in BASE w) ≡ true → new_use w ≡ true) → HasForm catalog wide q sheet → HasForm catalog new_use q sheet
    space_use_after q sheet on apart_two on_space wide_form =
        form_by_places catalog wide new_use q sheet (λ slot two low ref. absurd (apart_two two)) (λ s k other starts place ref. object s k starts place ref) wide_form
      where
        now : get (laid after written) q ≡ Some sheet
        now = laid_below after written q (apart q (ap is_some on)) ∙ on

        -- what an object refers to in the space stands on a page of it or on a written one
        stands : (w : ℕ) → is_object_at BASE space w ≡ true → (IsDead catalog BASE before w → ⊥) → contains_key after (page_in BASE (moved w)) ≡ true
            → starts_at (get after (page_in BASE (moved w))) (word_in BASE (moved w)) ≡ true
        stands w mine live there =
            let at = stands_on space w mine in
            let all : get (laid space changed) (page_in BASE w) ≡ Some at.sheet = laid_below space changed (page_in BASE w) (apart_before (page_in BASE w) (ap is_some at.on)) ∙ at.on in
            let copy = carried.carried.objects w at.sheet (object_at_on (laid space changed) w at.sheet all at.address at.unmoved) live all in
            let here : get after (page_in BASE (moved w)) ≡ Some copy.1.0 =
            sym (laid_below after written (page_in BASE (moved w)) (apart (page_in BASE (moved w)) there)) ∙ copy.1.1 in
            ap (λ (o : Option Sheet). starts_at o (word_in BASE (moved w))) here
            ∙ (and_parts (is_start copy.1.0 (word_in BASE (moved w))) (not (is_forwarded (slice_index copy.1.0.words (word_in BASE (moved w))))) copy.1.2.object).0

        leads : (w : ℕ) → MayBe w
            → (is_object_at BASE space w ≡ true → (contains_key written (page_in BASE (moved w)) ≡ false → contains_key after (page_in BASE (moved w)) ≡ true) × (IsDead catalog BASE before w → ⊥))
            → (v : ℕ) → v ≡ moved w → wide v ≡ true → new_use v ≡ true
        leads w (inl uses) lead v is ref = ap new_use (is ∙ use_stays w uses) ∙ still w uses
        leads w (inr mine) lead v is ref = of (contains_key written (page_in BASE (moved w))) refl
          where
            of : (b : Bool) → contains_key written (page_in BASE (moved w)) ≡ b → new_use v ≡ true
            of true there = on_written v ref (ap (λ (c : ℕ). contains_key written (page_in BASE c)) is ∙ there)
            of false off =
                let l = lead mine in
                on_space v ref (ap (λ (c : ℕ). starts_at (get after (page_in BASE c)) (word_in BASE c)) is ∙ stands w mine l.1 (l.0 off))

        object : (s k : ℕ) → is_start sheet s ≡ true → IsReferenceIn (map_at catalog sheet s) (tail_at sheet s) k → wide (slice_index sheet.words (s + 2 + k)) ≡ true
            → new_use (slice_index sheet.words (s + 2 + k)) ≡ true
        object s k starts place ref =
            let whole = whole_start catalog wide q sheet s wide_form starts in
            let low : s < 512 = (let w = whole.within in let n = whole.size in omega (arith, w, n)) in
            let b : ℕ = address BASE q s in
            let page : page_in BASE b ≡ q = page_in-address BASE q s low in
            let word : word_in BASE b ≡ s = word_in-address BASE q s low in
            let there : get (laid after written) (page_in BASE b) ≡ Some sheet = ap (get (laid after written)) page ∙ now in
            let unmoved : is_unmoved sheet (word_in BASE b) ≡ true = ap (is_unmoved sheet) word ∙ and_from (is_start sheet s) (not (is_forwarded (slice_index sheet.words s))) starts (ap not whole.unmoved) in
            let from = carried.only b (object_at_on (laid after written) b sheet there (is_address-address BASE q s) unmoved) in
            let was = stands_on (laid space changed) from.0 from.2 in
            let copy = copied_from catalog before fresh (laid space changed) (laid after written) after written carried from.0 b k sheet was from.3 from.1 there
            (subst (λ (t : ℕ). IsReferenceIn (map_at catalog sheet t) (tail_at sheet t) k) (sym word) place) in
            let at : contains_key after (page_in BASE (moved from.0)) ≡ true = ap (λ (c : ℕ). contains_key after (page_in BASE c)) from.1 ∙ ap (contains_key after) page ∙ ap is_some on in
            leads copy.0 (refers_may from.0 k copy.0 was copy.1) (leads_space from.0 k copy.0 was from.3 at copy.1)
            (slice_index sheet.words (s + 2 + k)) (ap (λ (t : ℕ). slice_index sheet.words (t + 2 + k)) (sym word) ∙ copy.2) ref
