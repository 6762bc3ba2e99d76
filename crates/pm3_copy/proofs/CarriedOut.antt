-- A pass was carried out.
use Rattle.std.proofs.Common.{◌≡◌, ◌≢◌, ◌<◌, ◌≤◌, ◌+◌, ◌∙◌, ◌⊎◌, ◌↔◌, inl, inr, ℕ, true, false, List, ◌++◌, take, drop, length, get_or, not, Option, Some, None, is_some, slice_index_or, refl, sym, ap, subst, arith}
use Rattle.std.specs.FinMap as map_of
use Rattle.std.specs.FinSet as set
use Rattle.std.specs.Ordering.{nat_cmp}
use Rattle.std.specs.List.{All, Contains}
use Rattle.std.proofs.lemmas.Bool.{cases_Bool, and_parts, false≢true}
use Rattle.pm3_types.specs.Fields.{Fields}
use Rattle.pm3_types.specs.Layout.{Sheet, PageImage, address, is_address, begins_at, is_start, is_unmoved, is_forwarded, page_in, word_in}
use Rattle.pm3_types.specs.Least.Least.{begin, next}
use Rattle.pm3_types.specs.Objects.{is_object_at, is_unmoved_on}
use Rattle.pm3_types.specs.PageForm.{IsSound, is_memory_reference}
use Rattle.pm3_types.specs.PassMoves.{AreMovers, moved_by, paired, settled, sizes, wanted_by}
use Rattle.pm3_types.specs.PassSets.{Before, Promoted, Kept, Live, IsDead, Turns}
use Rattle.pm3_types.specs.PassShown.{AreJoined, AreAddresses, AreCarried, IsCopy}
use Rattle.pm3_types.specs.Shown as shown
use Rattle.pm3_types.specs.Whole.{IsWhole}
use Rattle.pm3_types.proofs.Addressing as addressing
use Rattle.pm3_types.proofs.FormedObjects.{begins, blank_starts, objects_of, start_of}
use Rattle.pm3_types.proofs.PassClosed.{object_alike}
use Rattle.pm3_types.proofs.PassLater.{promoted_there, kept_there, nothing_later}
use Rattle.pm3_page.specs.PageMap.{Images}
use Rattle.pm3_page.specs.PageSheets.{AreSoundPages, sheets_of}
use Rattle.pm3_copy.specs.CarriedOut.{IsCarriedOut}
use Rattle.pm3_copy.specs.Fresh.{AreBlank}
use Rattle.pm3_copy.specs.Moving.{IsSameObject, AreMoved, BeginsOn}
use Rattle.pm3_copy.specs.Renaming.{AreUpdated, IsUpdated}
use Rattle.pm3_copy.specs.Spreading.{before_of, AreTurned}
use Rattle.pm3_copy.proofs.BothMoves.{among}
use Rattle.pm3_copy.proofs.Carried as images_of
use Rattle.pm3_copy.proofs.Carried.{AreParted, IsHere, joined_has, joined_from, joined_none, starts_same, updated_here, updated_from, updated_pages}
use Rattle.pm3_copy.proofs.Destinations.{settled_on, of_take, of_drop, first_goes, second_goes}
use Rattle.pm3_copy.proofs.PlanParts.{same_pages, sizes_within}
use Rattle.pm3_copy.proofs.Stayers.{kept_apart}
use Rattle.pm3_copy.proofs.RenamedCopies.{renamed_copy, same_itself}
use Rattle.pm3_copy.proofs.Wholes.{some_of, same_some, none_some, whole_at, object_here, object_there, object_of, object_begins, sheet_on, image_on}

-- the sheet on which an object begins
sheet_of : (base : ℕ) (images : shown.Images) (a : ℕ) → is_object_at base images a ≡ true → (is_address base a ≡ true) × ((sheet : Sheet) × (map_of.get images (page_in base a) ≡ Some sheet) × (is_start sheet (word_in base a) ≡ true))
sheet_of base images a is = by (map_of.get images (page_in base a)) refl
  where
    parts : (is_address base a ≡ true) × (is_unmoved_on (map_of.get images (page_in base a)) (word_in base a) ≡ true)
    parts = and_parts (is_address base a) (is_unmoved_on (map_of.get images (page_in base a)) (word_in base a)) is

    by : (o : Option Sheet) → map_of.get images (page_in base a) ≡ o → (is_address base a ≡ true) × ((sheet : Sheet) × (map_of.get images (page_in base a) ≡ Some sheet) × (is_start sheet (word_in base a) ≡ true))
    by None none = absurd (false≢true (sym (ap (λ (o : Option Sheet). is_unmoved_on o (word_in base a)) none) ∙ parts.1))
    by (Some sheet) on =
        let unmoved : is_unmoved sheet (word_in base a) ≡ true = sym (ap (λ (o : Option Sheet). is_unmoved_on o (word_in base a)) on) ∙ parts.1 in
        (parts.0, (sheet, on, (and_parts (is_start sheet (word_in base a)) (not (is_forwarded (get_or sheet.words (word_in base a) 0))) unmoved).0))

module _ (catalog : List Fields) (base : ℕ) (above : 0 < base) (space written blanks filled now_space now_written new_space new_written : Images) (pinned turned freed : set.FinSet nat_cmp) (promoted kept fresh : List ℕ)
    (news places : List ℕ) (all now : shown.Images)
    (space_sound : AreSoundPages catalog base 16384 space) (written_sound : AreSoundPages catalog base 16384 written) (filled_sound : AreSoundPages catalog base 16384 filled) (blank : AreBlank blanks)
    (no_roots : map_of.get space 2 ≡ None) (promoted_movers : AreMovers base (before_of space written pinned) (Promoted catalog base (before_of space written pinned)) promoted)
    (kept_movers : AreMovers base (before_of space written pinned) (Kept catalog base (before_of space written pinned)) kept) (turns : AreTurned catalog base (before_of space written pinned) turned) where
  abbrev before : Before
  before = before_of space written pinned

  abbrev to : ℕ → ℕ
  to w = moved_by (paired promoted news ++ paired kept places) w

  abbrev wanted : ℕ
  wanted = wanted_by catalog base (sheets_of space) promoted

  module _ (parted : AreParted (take wanted fresh) (drop wanted fresh) turned freed pinned space written filled now_space now_written)
      (moved : AreMoved catalog base space promoted kept to blanks filled) (space_updated : AreUpdated catalog to now_space new_space) (written_updated : AreUpdated catalog to now_written new_written)
      (joined_all : AreJoined (sheets_of space) (sheets_of written) all) (joined_now : AreJoined (sheets_of new_space) (sheets_of new_written) now) where
    origin : (p : ℕ) (image : PageImage) → IsHere now_space now_written p image
        → ((map_of.get space p ≡ Some image) × (set.contains pinned p ≡ true)) ⊎ ((map_of.get written p ≡ Some image) ⊎ (map_of.get filled p ≡ Some image))
    origin = images_of.origin (take wanted fresh) (drop wanted fresh) turned freed pinned space written filled now_space now_written parted

    here_sound : (p : ℕ) (image : PageImage) → IsHere now_space now_written p image → IsSound catalog base 16384 image
    here_sound p image here = elim (origin p image here) [
      | inl of_space ↦ space_sound.form p image of_space.0
      | inr others ↦ elim others [ inl of_written ↦ written_sound.form p image of_written | inr of_filled ↦ filled_sound.form p image of_filled ]
    ]

    -- objects of the space and of written pages are those of all images
    all_space : (a : ℕ) → is_object_at base (sheets_of space) a ≡ true → is_object_at base all a ≡ true
    all_space a is =
        let there = sheet_of base (sheets_of space) a is in
        let image = image_on space (page_in base a) there.1.0 there.1.1 in
        object_alike base all (sheets_of space) a (joined_has space written all (page_in base a) image.0 joined_all (inl image.1) ∙ sym (sheet_on space (page_in base a) image.0 image.1)) ∙ is

    -- a written page is none of the space
    no_space : (p : ℕ) (image : PageImage) → map_of.get written p ≡ Some image → map_of.get (sheets_of space) p ≡ None
    no_space p image on = elim (joined_all.apart p) [ inl none ↦ none | inr none ↦ none_some image.sheet _ (sym none ∙ sheet_on written p image on) ]

    member_there : (a : ℕ) → Contains promoted a ⊎ Contains kept a → is_object_at base (sheets_of space) a ≡ true
    member_there a (inl c) = promoted_there catalog base before a (promoted_movers.only a c).0
    member_there a (inr c) = kept_there catalog base before a (kept_movers.only a c).0

    member_free : (a : ℕ) → Contains promoted a ⊎ Contains kept a → set.contains pinned (page_in base a) ≡ false
    member_free a (inl c) = (promoted_movers.only a c).1
    member_free a (inr c) = (kept_movers.only a c).1

    stays_pinned : (a : ℕ) → set.contains pinned (page_in base a) ≡ true → to a ≡ a
    stays_pinned a is = moved.others a (λ c. false≢true (sym (member_free a (inl c)) ∙ is)) (λ c. false≢true (sym (member_free a (inr c)) ∙ is))

    stays_written : (a : ℕ) (image : PageImage) → map_of.get written (page_in base a) ≡ Some image → to a ≡ a
    stays_written a image on =
        let none = no_space (page_in base a) image on in
        moved.others a (nothing_later catalog base before promoted a (inl promoted_movers) none) (nothing_later catalog base before kept a (inr kept_movers) none)

    abbrev Stands : ℕ → Sheet → ℕ → Type 0
    Stands a sheet b = (is_address base b ≡ true) × ((copy : Sheet) × (map_of.get now (page_in base b) ≡ Some copy) × IsCopy catalog to sheet (word_in base a) copy (word_in base b))

    -- an object that has a copy among the images before they are updated
    stands : (a b : ℕ) (sheet : Sheet) (copy : PageImage) → IsWhole catalog sheet (word_in base a) → is_address base b ≡ true → IsHere now_space now_written (page_in base b) copy
        → IsSameObject catalog sheet (word_in base a) copy.sheet (word_in base b) → Stands a sheet b
    stands a b sheet copy whole address_ here same =
        let sound = here_sound (page_in base b) copy here in
        let page = (objects_of catalog (is_memory_reference base 16384) copy.page copy.sheet (word_in base b) sound same.start).0 in
        let is = updated_here catalog to now_space now_written new_space new_written space_updated written_updated (page_in base b) copy here in (
          address_,
          (
            is.0.sheet,
            joined_has new_space new_written now (page_in base b) is.0 joined_now is.1,
            renamed_copy catalog base to sheet (word_in base a) copy (word_in base b) is.0.sheet whole same sound (is.3.objects page),
          ),
        )

    from_space : (a : ℕ) (image : PageImage) → is_object_at base all a ≡ true → (IsDead catalog base before a → ⊥) → map_of.get space (page_in base a) ≡ Some image → Stands a image.sheet (to a)
    from_space a image is live on = by (among promoted a) (among kept a)
      where
        of_space : is_object_at base (sheets_of space) a ≡ true
        of_space = sym (object_alike base all (sheets_of space) a (joined_has space written all (page_in base a) image joined_all (inl on) ∙ sym (sheet_on space (page_in base a) image on))) ∙ is

        begins_here : begins_at base image a ≡ true
        begins_here = object_begins base space (page_in base a) image a on (object_there catalog base 16384 space a space_sound of_space) refl

        whole : IsWhole catalog image.sheet (word_in base a)
        whole = whole_at catalog base 16384 image a (space_sound.form (page_in base a) image on) begins_here

        member : Contains promoted a ⊎ Contains kept a → Stands a image.sheet (to a)
        member c =
            let there = moved.moved a c in
            let copy = there.0 in
            let e : copy.source ≡ image = same_some copy.source image (sym copy.on ∙ on) in
            stands a (to a) image.sheet copy.copy whole there.2
            (images_of.from_filled (take wanted fresh) (drop wanted fresh) turned freed pinned space written filled now_space now_written parted
            (page_in base (to a)) copy.copy copy.now)
            (subst (λ (i : PageImage). IsSameObject catalog i.sheet (word_in base a) copy.copy.sheet (word_in base (to a))) e copy.same)

        by : Contains promoted a ⊎ (Contains promoted a → ⊥) → Contains kept a ⊎ (Contains kept a → ⊥) → Stands a image.sheet (to a)
        by (inl c) other = member (inl c)
        by (inr none) (inl c) = member (inr c)
        by (inr none) (inr neither) = elim (cases_Bool (set.contains pinned (page_in base a))) [
          | inl pin ↦ subst (Stands a image.sheet) (sym (stays_pinned a pin)) (stands a a image.sheet image whole (sheet_of base all a is).0
              (images_of.from_space (take wanted fresh) (drop wanted fresh) turned freed pinned space written filled now_space now_written parted
              (page_in base a) image on pin)
              (same_itself catalog image.sheet (word_in base a) (start_of base image a begins_here)))
          | inr free ↦ absurd (live (of_space, λ alive. dies free alive))
        ]
          where
            dies : set.contains pinned (page_in base a) ≡ false → Live catalog base before a → ⊥
            dies free (inl is_) = none (promoted_movers.all a (is_, free))
            dies free (inr is_) = neither (kept_movers.all a (is_, free))

    from_written : (a : ℕ) (image : PageImage) → is_object_at base all a ≡ true → map_of.get written (page_in base a) ≡ Some image → Stands a image.sheet (to a)
    from_written a image is on =
        let of_written : is_object_at base (sheets_of written) a ≡ true =
        sym (object_alike base all (sheets_of written) a (joined_has space written all (page_in base a) image joined_all (inr on) ∙ sym (sheet_on written (page_in base a) image on))) ∙ is in
        let begins_here : begins_at base image a ≡ true = object_begins base written (page_in base a) image a on (object_there catalog base 16384 written a written_sound of_written) refl in
        subst (Stands a image.sheet) (sym (stays_written a image on)) (stands a a image.sheet image
        (whole_at catalog base 16384 image a (written_sound.form (page_in base a) image on) begins_here) (sheet_of base all a is).0
        (images_of.from_written (take wanted fresh) (drop wanted fresh) turned freed pinned space written filled now_space now_written parted
        (page_in base a) image on)
        (same_itself catalog image.sheet (word_in base a) (start_of base image a begins_here)))

    objects : (a : ℕ) (sheet : Sheet) → is_object_at base all a ≡ true → (IsDead catalog base before a → ⊥) → map_of.get all (page_in base a) ≡ Some sheet → Stands a sheet (to a)
    objects a sheet is live on =
        let there = joined_from space written all (page_in base a) sheet joined_all on in
        subst (λ s. Stands a s (to a)) there.2 (elim there.1 [ inl of_space ↦ from_space a there.0 is live of_space | inr of_written ↦ from_written a there.0 is of_written ])

    roots : (sheet : Sheet) → map_of.get all 2 ≡ Some sheet → (copy : Sheet) × (map_of.get now 2 ≡ Some copy) × ((slot : ℕ) → slot < 16 → get_or copy.words (2 + slot) 0 ≡ to (get_or sheet.words (2 + slot) 0))
    roots sheet on = by there.1
      where
        there : (image : PageImage) × IsHere space written 2 image × (image.sheet ≡ sheet)
        there = joined_from space written all 2 sheet joined_all on

        by : IsHere space written 2 there.0 → (copy : Sheet) × (map_of.get now 2 ≡ Some copy) × ((slot : ℕ) → slot < 16 → get_or copy.words (2 + slot) 0 ≡ to (get_or sheet.words (2 + slot) 0))
        by (inl of_space) = none_some there.0 _ (sym no_roots ∙ of_space)
        by (inr of_written) =
            let here = images_of.from_written (take wanted fresh) (drop wanted fresh) turned freed pinned space written filled now_space now_written parted 2 there.0 of_written in
            let is = updated_here catalog to now_space now_written new_space new_written space_updated written_updated 2 there.0 here in (
              is.0.sheet,
              joined_has new_space new_written now 2 is.0 joined_now is.1,
              λ slot low. (is.3.roots (written_sound.home 2 there.0 of_written)).places (2 + slot) (slot, low, refl) ∙ ap (λ (s : Sheet). to (get_or s.words (2 + slot) 0)) there.2,
            )

    still_none : map_of.get all 2 ≡ None → map_of.get now 2 ≡ None
    still_none none = joined_none new_space new_written now 2 joined_now (λ image here. never (updated_from catalog to now_space now_written new_space new_written space_updated written_updated 2 image here))
      where
        never : {image : PageImage} → (was : PageImage) × IsHere now_space now_written 2 was × IsUpdated catalog to was image → ⊥
        never (was, here, updated) = elim (origin 2 was here) [
          | inl of_space ↦ none_some was _ (sym no_roots ∙ of_space.0)
          | inr others ↦ elim others [
            | inl of_written ↦ none_some was.sheet _ (sym none ∙ joined_has space written all 2 was joined_all (inr of_written))
            | inr of_filled ↦ (
                let there = some_of (map_of.get blanks 2) (sym (moved.pages 2) ∙ ap is_some of_filled) in
                let three = (blank 2 there.0 there.1).0 in
                omega arith)
          ]
        ]

    pub are_carried : AreCarried catalog base to (IsDead catalog base before) all now
    are_carried = record { objects = objects; roots = roots; no_roots = still_none }

    pub are_addresses : AreAddresses base to all
    are_addresses = record {
      others = λ a none. moved.others a (λ c. none (all_space a (member_there a (inl c)))) (λ c. none (all_space a (member_there a (inr c))));
      nonzero = λ a some. nonzero a some (among promoted a) (among kept a);
      zero = moved.others 0 (λ c. at_zero (member_there 0 (inl c))) (λ c. at_zero (member_there 0 (inr c)));
    }
      where
        at_zero : is_object_at base (sheets_of space) 0 ≡ true → ⊥
        at_zero is = (let low = addressing.above_base base 0 (sheet_of base (sheets_of space) 0 is).0 in omega arith)

        nonzero : (a : ℕ) → a ≢ 0 → Contains promoted a ⊎ (Contains promoted a → ⊥) → Contains kept a ⊎ (Contains kept a → ⊥) → to a ≢ 0
        nonzero a some (inl c) other e = (let low = addressing.above_base base (to a) (moved.moved a (inl c)).2 in omega arith)
        nonzero a some (inr none) (inl c) e = (let low = addressing.above_base base (to a) (moved.moved a (inr c)).2 in omega arith)
        nonzero a some (inr none) (inr neither) e = some (sym (moved.others a none neither) ∙ e)

    abbrev Comes : ℕ → Type 0
    Comes b = (a : ℕ) × (to a ≡ b) × (is_object_at base all a ≡ true) × (IsDead catalog base before a → ⊥)

    pub only : (b : ℕ) → is_object_at base now b ≡ true → Comes b
    only b is = by (origin (page_in base b) was.0 was.1)
      where
        there : (is_address base b ≡ true) × ((sheet : Sheet) × (map_of.get now (page_in base b) ≡ Some sheet) × (is_start sheet (word_in base b) ≡ true))
        there = sheet_of base now b is

        found : (image : PageImage) × IsHere new_space new_written (page_in base b) image × (image.sheet ≡ there.1.0)
        found = joined_from new_space new_written now (page_in base b) there.1.0 joined_now there.1.1

        was : (image : PageImage) × IsHere now_space now_written (page_in base b) image × IsUpdated catalog to image found.0
        was = updated_from catalog to now_space now_written new_space new_written space_updated written_updated (page_in base b) found.0 found.1

        start : is_start was.0.sheet (word_in base b) ≡ true
        start = sym (ap (λ xs. slice_index_or xs (word_in base b) false) (starts_same catalog to was.0 found.0 was.2)) ∙ ap (λ (s : Sheet). is_start s (word_in base b)) found.2 ∙ there.1.2

        by : ((map_of.get space (page_in base b) ≡ Some was.0) × (set.contains pinned (page_in base b) ≡ true)) ⊎ ((map_of.get written (page_in base b) ≡ Some was.0) ⊎ (map_of.get filled (page_in base b) ≡ Some was.0)) → Comes b
        by (inl (on, pin)) = (b, stays_pinned b pin, all_space b of_space, λ dead. dead.1 (inr (begin b (of_space, pin, λ is_. dead.1 (inl is_)))))
          where
            of_space : is_object_at base (sheets_of space) b ≡ true
            of_space = object_here catalog base 16384 space b space_sound
                (object_of base space (page_in base b) was.0 b space_sound.home on (begins base was.0 b there.0 (sym (space_sound.home (page_in base b) was.0 on)) start))
        by (inr (inl on)) =
            let of_written = object_here catalog base 16384 written b written_sound
            (object_of base written (page_in base b) was.0 b written_sound.home on (begins base was.0 b there.0 (sym (written_sound.home (page_in base b) was.0 on)) start)) in (
              b,
              stays_written b was.0 on,
              object_alike base all (sheets_of written) b (joined_has space written all (page_in base b) was.0 joined_all (inr on) ∙ sym (sheet_on written (page_in base b) was.0 on)) ∙ of_written,
              λ dead. (let here = sheet_of base (sheets_of space) b dead.0 in none_some here.1.0 _ (sym (no_space (page_in base b) was.0 on) ∙ here.1.1)),
            )
        by (inr (inr on)) = come (moved.only (page_in base b) (word_in base b) (record { image = was.0; on = on; start = start }))
          where
            come : BeginsOn blanks (page_in base b) (word_in base b) ⊎ ((a : ℕ) × (Contains promoted a ⊎ Contains kept a) × (to a ≡ address base (page_in base b) (word_in base b))) → Comes b
            come (inl begun) =
                let empty = (blank (page_in base b) begun.image begun.on).2 in
                absurd (false≢true (sym (ap (λ (i : PageImage). is_start i.sheet (word_in base b)) empty ∙ blank_starts 512 (word_in base b)) ∙ begun.start))
            come (inr (a, member, at)) = (a, at ∙ addressing.address_of base b there.0, all_space a (member_there a member), alive a member)
              where
                alive : (a : ℕ) → Contains promoted a ⊎ Contains kept a → IsDead catalog base before a → ⊥
                alive a (inl c) dead = dead.1 (inl (promoted_movers.only a c).0)
                alive a (inr c) dead = dead.1 (inr (kept_movers.only a c).0)

    pub written_pages : (p : ℕ) → (map_of.contains_key (sheets_of new_written) p ≡ true) ↔ ((map_of.contains_key (sheets_of written) p ≡ true) ⊎ (Turns catalog base before p ⊎ Contains (take wanted fresh) p))
    written_pages p = (λ is. on (are.0 (sym same ∙ is)), λ is. same ∙ are.1 (back is))
      where
        same : map_of.contains_key (sheets_of new_written) p ≡ map_of.contains_key now_written p
        same = same_pages new_written p ∙ updated_pages catalog to now_written new_written written_updated p

        are : (map_of.contains_key now_written p ≡ true) ↔ ((map_of.contains_key written p ≡ true) ⊎ ((set.contains turned p ≡ true) ⊎ Contains (take wanted fresh) p))
        are = images_of.written_now (take wanted fresh) (drop wanted fresh) turned freed pinned space written filled now_space now_written parted p

        on : (map_of.contains_key written p ≡ true) ⊎ ((set.contains turned p ≡ true) ⊎ Contains (take wanted fresh) p) → (map_of.contains_key (sheets_of written) p ≡ true) ⊎ (Turns catalog base before p ⊎ Contains (take wanted fresh) p)
        on (inl was) = inl (same_pages written p ∙ was)
        on (inr (inl is)) = inr (inl ((turns p).0 is))
        on (inr (inr is)) = inr (inr is)

        back : (map_of.contains_key (sheets_of written) p ≡ true) ⊎ (Turns catalog base before p ⊎ Contains (take wanted fresh) p) → (map_of.contains_key written p ≡ true) ⊎ ((set.contains turned p ≡ true) ⊎ Contains (take wanted fresh) p)
        back (inl was) = inl (sym (same_pages written p) ∙ was)
        back (inr (inl is)) = inr (inl ((turns p).1 is))
        back (inr (inr is)) = inr (inr is)

    pub space_pages : (p : ℕ) → (map_of.contains_key (sheets_of new_space) p ≡ true) ↔ (((set.contains pinned p ≡ true) × (Turns catalog base before p → ⊥)) ⊎ Contains (drop wanted fresh) p)
    space_pages p = (λ is. on (are.0 (sym same ∙ is)), λ is. same ∙ are.1 (back is))
      where
        same : map_of.contains_key (sheets_of new_space) p ≡ map_of.contains_key now_space p
        same = same_pages new_space p ∙ updated_pages catalog to now_space new_space space_updated p

        are : (map_of.contains_key now_space p ≡ true) ↔ (((set.contains pinned p ≡ true) × (set.contains turned p ≡ false)) ⊎ Contains (drop wanted fresh) p)
        are = images_of.space_now (take wanted fresh) (drop wanted fresh) turned freed pinned space written filled now_space now_written parted p

        on : ((set.contains pinned p ≡ true) × (set.contains turned p ≡ false)) ⊎ Contains (drop wanted fresh) p → ((set.contains pinned p ≡ true) × (Turns catalog base before p → ⊥)) ⊎ Contains (drop wanted fresh) p
        on (inl (pin, stays)) = inl (pin, λ is. false≢true (sym stays ∙ (turns p).1 is))
        on (inr is) = inr is

        back : ((set.contains pinned p ≡ true) × (Turns catalog base before p → ⊥)) ⊎ Contains (drop wanted fresh) p → ((set.contains pinned p ≡ true) × (set.contains turned p ≡ false)) ⊎ Contains (drop wanted fresh) p
        back (inl (pin, never)) = inl (pin, elim (cases_Bool (set.contains turned p)) [ inl is ↦ absurd (never ((turns p).0 is)) | inr stays ↦ stays ])
        back (inr is) = inr is

    pub is_carried_out : news ≡ settled base (sizes catalog base (sheets_of space) promoted) (take wanted fresh) → places ≡ settled base (sizes catalog base (sheets_of space) kept) (drop wanted fresh)
        → length news ≡ length promoted → length places ≡ length kept → IsCarriedOut catalog base before fresh all now (sheets_of new_space) (sheets_of new_written)
    is_carried_out first second long others_long = record {
      moves = paired promoted news ++ paired kept places;
      are = record { promoted = promoted; kept = kept; of_promoted = promoted_movers; of_kept = kept_movers; are = λ i. paired promoted (first i) ++ paired kept (second i) };
      addresses = are_addresses;
      goes = goes;
      carried = are_carried;
      only = only;
      persistent = persistent;
      volatile = volatile;
      written_pages = written_pages;
      space_pages = space_pages;
    }
      where
        apart : (a : ℕ) → Contains promoted a → Contains kept a → ⊥
        apart a one other = kept_apart catalog base before a (kept_movers.only a other).0 (promoted_movers.only a one).0

        big : (list : List ℕ) → ((a : ℕ) → Contains list a → is_object_at base (sheets_of space) a ≡ true) → All (λ s. 2 ≤ s) (sizes catalog base (sheets_of space) list)
        big list there k d low = (sizes_within catalog base space space_sound list (λ a is. object_there catalog base 16384 space a space_sound (there a is)) k d low).0

        -- the objects of the first list go to the first pages, and those of the second to the others
        first_on : (a : ℕ) → Contains promoted a → Contains (take wanted fresh) (page_in base (to a))
        first_on a c =
            let there = first_goes promoted news kept places long others_long promoted_movers.rising kept_movers.rising apart a c in
            settled_on base (sizes catalog base (sheets_of space) promoted) (take wanted fresh) (to a) (big promoted (λ b is. member_there b (inl is))) (subst (λ xs. Contains xs (to a)) first there)

        second_on : (a : ℕ) → Contains kept a → Contains (drop wanted fresh) (page_in base (to a))
        second_on a c =
            let there = second_goes promoted news kept places long others_long promoted_movers.rising kept_movers.rising apart a c in
            settled_on base (sizes catalog base (sheets_of space) kept) (drop wanted fresh) (to a) (big kept (λ b is. member_there b (inr is))) (subst (λ xs. Contains xs (to a)) second there)

        goes : (a : ℕ) → (to a ≡ a) ⊎ Contains fresh (page_in base (to a))
        goes a = elim (among promoted a) [
          | inl c ↦ inr (of_take wanted fresh (page_in base (to a)) (first_on a c))
          | inr none ↦ elim (among kept a) [ inl c ↦ inr (of_drop wanted fresh (page_in base (to a)) (second_on a c)) | inr neither ↦ inl (moved.others a none neither) ]
        ]

        persistent : (a : ℕ) → Promoted catalog base before a → map_of.contains_key (sheets_of new_written) (page_in base (to a)) ≡ true
        persistent a is = elim (cases_Bool (set.contains pinned (page_in base a))) [
          | inl pin ↦ ap (λ b. map_of.contains_key (sheets_of new_written) (page_in base b)) (stays_pinned a pin) ∙ (written_pages (page_in base a)).1 (inr (inl (pin, (a, refl, is))))
          | inr free ↦ (written_pages (page_in base (to a))).1 (inr (inr (first_on a (promoted_movers.all a (is, free)))))
        ]

        volatile : (a : ℕ) → Kept catalog base before a → map_of.contains_key (sheets_of new_space) (page_in base (to a)) ≡ true
        volatile a is = elim (cases_Bool (set.contains pinned (page_in base a))) [
          | inl pin ↦ ap (λ b. map_of.contains_key (sheets_of new_space) (page_in base b)) (stays_pinned a pin)
              ∙ (space_pages (page_in base a)).1 (inl (pin, λ turns_. kept_apart catalog base before a is (next turns_.1.0 a turns_.1.2 (kept_there catalog base before a is, inr (ap (set.contains pinned) turns_.1.1 ∙ pin, sym turns_.1.1)))))
          | inr free ↦ (space_pages (page_in base (to a))).1 (inr (second_on a (kept_movers.all a (is, free))))
        ]
