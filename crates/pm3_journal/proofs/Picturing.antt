-- The images at the offsets of a table.
use Rattle.std.proofs.Common.{◌≡◌, ◌⊎◌, ⊎_elim, ◌==◌, ◌&&◌, ◌||◌, nat_lt, is_some, if◌then◌else◌, Bool, true, false, replicate, ◌+◌, ◌<◌, ◌≤◌, ℕ, List, [], ◌∷◌, ◌++◌, length, take, drop, cond, get_or, Option, Some, None, refl, sym, ◌∙◌, ap, arith, append_assoc}
use Rattle.std.proofs.lemmas.List.{append-nil, take_more, length-take-le, get_or-replicate, get_or_past, length-replicate}
use Rattle.std.proofs.lemmas.List.Sums.{sum_by-drop_more}
use Rattle.pm3_journal.specs.Format.{PagePart, Image, JournalRecord, record_size, parts_size}
use Rattle.std.proofs.lemmas.Bool.{cases_eq, cases_lt, eq-eqb, le-ltb, lt-ltb, ne_eqb}
use Rattle.pm3_journal.specs.Pages.{image_of}
use Rattle.pm3_journal.specs.Summaries.{Summary}
use Rattle.pm3_journal.specs.Findings.{HasList}
use Rattle.pm3_journal.specs.Offsets.{has_offset, number_of_offsets, images_at, one_at, offset_in, last_offset}
use Rattle.pm3_journal.specs.Reading.{State, at_start, next}
use Rattle.pm3_journal.specs.Records.{Stand}
use Rattle.pm3_journal.proofs.Listing.{stand_length}

one_before : (page : ℕ) (cell : Option ℕ) (offsets : List (Option ℕ)) (bytes : List ℕ) → images_at page (cell ∷ offsets) bytes ≡ one_at page cell bytes ++ images_at (page + 1) offsets bytes
one_before page None offsets bytes = refl
one_before page (Some place) offsets bytes = refl

images_push : (page : ℕ) (offsets : List (Option ℕ)) (cell : Option ℕ) (bytes : List ℕ) → images_at page (offsets ++ cell ∷ []) bytes ≡ images_at page offsets bytes ++ one_at (page + length offsets) cell bytes
images_push page [] cell bytes =
    let here : page ≡ page + 0 = omega arith in
    one_before page cell [] bytes ∙ append-nil (one_at page cell bytes) ∙ ap (λ (p : ℕ). one_at p cell bytes) here
images_push page (first ∷ offsets) cell bytes =
    let there : page + 1 + length offsets ≡ page + (1 + length offsets) = omega arith in
    one_before page first (offsets ++ cell ∷ []) bytes
    ∙ ap (λ (l : List (ℕ × List ℕ)). one_at page first bytes ++ l) (images_push (page + 1) offsets cell bytes)
    ∙ sym (append_assoc (one_at page first bytes) (images_at (page + 1) offsets bytes) (one_at (page + 1 + length offsets) cell bytes))
    ∙ ap (λ (l : List (ℕ × List ℕ)). l ++ one_at (page + 1 + length offsets) cell bytes) (sym (one_before page first offsets bytes))
    ∙ ap (λ (p : ℕ). images_at page (first ∷ offsets) bytes ++ one_at p cell bytes) (there ∙ length_is)
  where
    length_is : page + (1 + length offsets) ≡ page + length (first ∷ offsets)
    length_is = omega arith

-- the images of the cells below i, and the next
pub images_step : (offsets : List (Option ℕ)) (i : ℕ) (bytes : List ℕ) → i < length offsets → images_at 0 (take (i + 1) offsets) bytes ≡ images_at 0 (take i offsets) bytes ++ one_at i (get_or offsets i None) bytes
images_step offsets i bytes within =
    ap (λ (l : List (Option ℕ)). images_at 0 l bytes) (take_more offsets i None within) ∙ images_push 0 (take i offsets) (get_or offsets i None) bytes
    ∙ ap (λ (n : ℕ). images_at 0 (take i offsets) bytes ++ one_at n (get_or offsets i None) bytes) page
  where
    page : 0 + length (take i offsets) ≡ i
    page = omega (arith, length-take-le i offsets (omega arith))

-- room for the images of the cells from i on is room for the first of them, and leaves room for the others
module _ (offsets : List (Option ℕ)) (i room now : ℕ) (within : i < length offsets) (fits : number_of_offsets (drop i offsets) ≤ room) where
  first_cell : number_of_offsets (drop i offsets) ≡ cond (has_offset (get_or offsets i None)) 1 0 + number_of_offsets (drop (i + 1) offsets)
  first_cell = sum_by-drop_more (λ cell. cond (has_offset cell) 1 0) offsets i None within

  pub room_step : room ≤ now + number_of_offsets (get_or offsets i None ∷ []) → number_of_offsets (drop (i + 1) offsets) ≤ now
  room_step taken = omega (arith, first_cell, fits, taken)

room_for_one : (b : Bool) (more room : ℕ) → cond b 1 0 + more ≤ room → b ≡ true → 0 < room
room_for_one true more room fits is = omega (arith, fits)
room_for_one false more room fits is = absurd (cc is)

pub room_there : (offsets : List (Option ℕ)) (i room : ℕ) → i < length offsets → number_of_offsets (drop i offsets) ≤ room → has_offset (get_or offsets i None) ≡ true → 0 < room
room_there offsets i room within fits is =
    let first = sum_by-drop_more (λ cell. cond (has_offset cell) 1 0) offsets i None within in
    room_for_one (has_offset (get_or offsets i None)) (number_of_offsets (drop (i + 1) offsets)) room (omega (arith, first, fits)) is

chosen_within : (b : Bool) (first limit : ℕ) (was : Option ℕ) → first + 4096 ≤ limit → ((place : ℕ) → was ≡ Some place → place + 4096 ≤ limit) → (place : ℕ) → (if b then Some first else was) ≡ Some place → place + 4096 ≤ limit
chosen_within true first limit was le before place is =
    let same : first ≡ place = cc is in
    omega (arith, same, le)
chosen_within false first limit was le before place is = before place is

offset_in_within : (page at limit : ℕ) (parts : List PagePart) (was : Option ℕ) → at + parts_size parts ≤ limit → ((place : ℕ) → was ≡ Some place → place + 4096 ≤ limit) → (place : ℕ) → offset_in page at parts was ≡ Some place → place + 4096 ≤ limit
offset_in_within page at limit [] was le before place is = before place is
offset_in_within page at limit (Image number image ∷ parts) was le before place is =
    let first : at + 8 + 4096 ≤ limit = omega (arith, le) in
    let rest : at + 4104 + parts_size parts ≤ limit = omega (arith, le) in
    offset_in_within page (at + 4104) limit parts (if number == page then Some (at + 8) else was) rest (chosen_within (number == page) (at + 8) limit was first before) place is

-- each image of the list lies before its end
pub last_offset_within : (page : ℕ) (s : State) (at : ℕ) (c : List ℕ) (rs : List JournalRecord) (end : ℕ) (was : Option ℕ) → Stand s at c rs end → ((place : ℕ) → was ≡ Some place → place + 4096 ≤ end) → (place : ℕ) → last_offset page at rs was ≡ Some place → place + 4096 ≤ end
last_offset_within page s at c [] end was stand before place is = before place is
last_offset_within page s at c (r ∷ rs) end was stand before place is =
    let long = stand_length (next s r) (at + record_size r) c rs end stand.1 in
    let fits : at + 48 + parts_size r.parts ≤ end = omega (arith, long) in
    last_offset_within page (next s r) (at + record_size r) c rs end (offset_in page (at + 48) r.parts was) stand.1 (offset_in_within page (at + 48) end r.parts was fits before) place is

pub none_is_some : (limit place : ℕ) → None ≡ Some place → place + 4096 ≤ limit
none_is_some limit place is = absurd (cc is)

-- each place of the table of a list that was read
pub offsets_within : (pages end : ℕ) (due : Option ℕ) (summaries : List Summary) (offsets : List (Option ℕ)) (bytes : List ℕ) → HasList pages end due summaries offsets bytes → (page place : ℕ) → get_or offsets page None ≡ Some place → place + 4096 ≤ length bytes
offsets_within pages end due summaries offsets bytes has page place is =
    let within = last_offset_within page (at_start pages) 32 bytes has.list end None has.front.stand (none_is_some end) place (sym (has.offsets_are page) ∙ is) in
    omega (arith, within, has.front.within)

abbrev pub no_offset : Option ℕ
no_offset = None

pub get_blank : (n page : ℕ) → get_or (replicate n None) page None ≡ no_offset
get_blank n page = ⊎_elim within past (cases_lt page n)
  where
    within : page < n → get_or (replicate n None) page None ≡ no_offset
    within less = get_or-replicate n page None None less

    past : n ≤ page → get_or (replicate n None) page None ≡ no_offset
    past no_less = get_or_past (replicate n None) page None (omega (arith, length-replicate n (no_offset)))

and_true : (b : Bool) → (b && true) ≡ b
and_true true = refl
and_true false = refl

and_false : (b : Bool) → (b && false) ≡ false
and_false true = refl
and_false false = refl

or_false : (b : Bool) → (b || false) ≡ b
or_false true = refl
or_false false = refl

-- the pages below i that have an offset have an image, and no others have one
abbrev pub HasBelow : ℕ → List (Option ℕ) → List (ℕ × List ℕ) → Type 0
HasBelow i offsets items = (q : ℕ) → is_some (image_of q items) ≡ (nat_lt q i && has_offset (get_or offsets q None))

pub has_more : (i : ℕ) (offsets : List (Option ℕ)) (items now : List (ℕ × List ℕ)) → HasBelow i offsets items
    → ((q : ℕ) → is_some (image_of q now) ≡ (is_some (image_of q items) || (has_offset (get_or offsets i None) && (i == q)))) → HasBelow (i + 1) offsets now
has_more i offsets items now has pushed q = ⊎_elim here elsewhere (cases_eq i q)
  where
    here : i ≡ q → is_some (image_of q now) ≡ (nat_lt q (i + 1) && has_offset (get_or offsets q None))
    here is =
        let eq : (i == q) ≡ true = eq-eqb i q is in
        let no : nat_lt q i ≡ false = le-ltb q i (omega (arith, is)) in
        let yes : nat_lt q (i + 1) ≡ true = lt-ltb q (i + 1) (omega (arith, is)) in
        pushed q
        ∙ ap (λ (b : Bool). b || (has_offset (get_or offsets i None) && (i == q))) (has q ∙ ap (λ (b : Bool). b && has_offset (get_or offsets q None)) no)
        ∙ ap (λ (b : Bool). has_offset (get_or offsets i None) && b) eq
        ∙ and_true (has_offset (get_or offsets i None))
        ∙ ap (λ (n : ℕ). has_offset (get_or offsets n None)) is
        ∙ sym (ap (λ (b : Bool). b && has_offset (get_or offsets q None)) yes)

    elsewhere : (i ≡ q → ⊥) → is_some (image_of q now) ≡ (nat_lt q (i + 1) && has_offset (get_or offsets q None))
    elsewhere differ =
        let ne : (i == q) ≡ false = ne_eqb i q differ in
        pushed q
        ∙ ap (λ (b : Bool). is_some (image_of q items) || (has_offset (get_or offsets i None) && b)) ne
        ∙ ap (λ (b : Bool). is_some (image_of q items) || b) (and_false (has_offset (get_or offsets i None)))
        ∙ or_false (is_some (image_of q items)) ∙ has q ∙ ap (λ (b : Bool). b && has_offset (get_or offsets q None)) (same_side (cases_lt q i))
      where
        past : i ≤ q → i + 1 ≤ q
        past no_less = omega (arith, no_less, differ)

        same_side : (q < i) ⊎ (i ≤ q) → nat_lt q i ≡ nat_lt q (i + 1)
        same_side side = ⊎_elim (λ (less : q < i). lt-ltb q i less ∙ sym (lt-ltb q (i + 1) (omega (arith, less))))
            (λ (no_less : i ≤ q). le-ltb q i no_less ∙ sym (le-ltb q (i + 1) (past no_less))) side

-- no image yet
pub has_none_yet : (offsets : List (Option ℕ)) (items : List (ℕ × List ℕ)) → items ≡ [] → HasBelow 0 offsets items
has_none_yet offsets items none q = ap (λ (l : List (ℕ × List ℕ)). is_some (image_of q l)) none ∙ sym (ap (λ (b : Bool). b && has_offset (get_or offsets q None)) (le-ltb q 0 (omega arith)))

-- all of them
pub has_all : (i : ℕ) (offsets : List (Option ℕ)) (items : List (ℕ × List ℕ)) → length offsets ≤ i → HasBelow i offsets items → (q : ℕ) → is_some (image_of q items) ≡ has_offset (get_or offsets q None)
has_all i offsets items all has q = has q ∙ ⊎_elim within past (cases_lt q i)
  where
    within : q < i → (nat_lt q i && has_offset (get_or offsets q None)) ≡ has_offset (get_or offsets q None)
    within less = ap (λ (b : Bool). b && has_offset (get_or offsets q None)) (lt-ltb q i less)

    past : i ≤ q → (nat_lt q i && has_offset (get_or offsets q None)) ≡ has_offset (get_or offsets q None)
    past no_less =
        ap (λ (b : Bool). b && has_offset (get_or offsets q None)) (le-ltb q i no_less)
        ∙ sym (ap has_offset (get_or_past offsets q (no_offset) (omega (arith, all, no_less))))
