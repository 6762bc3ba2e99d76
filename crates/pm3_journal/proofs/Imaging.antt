-- The images at the last offsets are the last images.
use Rattle.std.proofs.Common.{◌≡◌, ◌+◌, ◌<◌, ◌==◌, ℕ, suc, zero, Bool, true, false, if◌then◌else◌, List, [], ◌∷◌, get_or, Option, Some, None, option_map, refl, sym, ◌∙◌, ap, subst, arith}
use Rattle.std.proofs.lemmas.Bool.{eq-eqb}
use Rattle.pm3_journal.specs.Format.{PagePart, Image, JournalRecord, record_size}
use Rattle.pm3_journal.specs.Opening.{image_in, last_image}
use Rattle.pm3_journal.specs.Pages.{image_of}
use Rattle.pm3_journal.specs.Offsets.{images_at, offset_in, last_offset}
use Rattle.pm3_types.specs.Bytes.{number_at, piece}
use Rattle.pm3_journal.specs.Reading.{State, at_start, next, Good, parts_at}
use Rattle.pm3_journal.specs.RecordFront.{number_of, part_departure}
use Rattle.pm3_journal.specs.Records.{Stand, HasFront}
use Rattle.pm3_journal.proofs.Pieces.{has_read, with_part_by}
use Rattle.std.specs.Int.{w32}

-- the image at a place
image_at : List ℕ → Option ℕ → Option (List ℕ)
image_at bytes place = option_map (λ at. piece at 4096 bytes) place

unequal : (m n : ℕ) → m < n → (n == m) ≡ false
unequal m n less = search (arith, less)

images_above : (page from : ℕ) (offsets : List (Option ℕ)) (bytes : List ℕ) → page < from → image_of page (images_at from offsets bytes) ≡ None
images_above page from [] bytes less = refl
images_above page from (None ∷ offsets) bytes less = images_above page (from + 1) offsets bytes (omega arith)
images_above page from (Some place ∷ offsets) bytes less =
    ap (λ (b : Bool). if b then Some (piece place 4096 bytes) else image_of page (images_at (from + 1) offsets bytes)) (unequal page from less) ∙ images_above page (from + 1) offsets bytes (omega arith)

images_found : (k page from : ℕ) (offsets : List (Option ℕ)) (bytes : List ℕ) → page ≡ from + k → image_of page (images_at from offsets bytes) ≡ image_at bytes (get_or offsets k None)
unfolding image_at
images_found k page from [] bytes is = refl
images_found zero page from (None ∷ offsets) bytes is = images_above page (from + 1) offsets bytes (omega arith)
images_found zero page from (Some place ∷ offsets) bytes is =
    let here : (from == page) ≡ true = eq-eqb from page (omega arith) in
    ap (λ (b : Bool). if b then Some (piece place 4096 bytes) else image_of page (images_at (from + 1) offsets bytes)) here
images_found (suc k) page from (None ∷ offsets) bytes is = images_found k page (from + 1) offsets bytes (omega arith)
images_found (suc k) page from (Some place ∷ offsets) bytes is =
    let elsewhere : (from == page) ≡ false = search (arith, is) in
    ap (λ (b : Bool). if b then Some (piece place 4096 bytes) else image_of page (images_at (from + 1) offsets bytes)) elsewhere ∙ images_found k page (from + 1) offsets bytes (omega arith)

noted : (b : Bool) (bytes : List ℕ) (place : ℕ) (was : Option ℕ) (image : Option (List ℕ)) → image ≡ image_at bytes was → (if b then Some (piece place 4096 bytes) else image) ≡ image_at bytes (if b then Some place else was)
unfolding image_at
noted true bytes place was image is = refl
noted false bytes place was image is = is

parts_last : (n pages last at page : ℕ) (bytes : List ℕ) (parts : List PagePart) (was : Option ℕ) (image : Option (List ℕ)) → parts_at n pages last at bytes ≡ Good parts → image ≡ image_at bytes was → image_in page parts image ≡ image_at bytes (offset_in page at parts was)
parts_last zero pages last at page bytes [] was image are is = is
parts_last zero pages last at page bytes (part ∷ parts) was image are is = absurd (cc are)
parts_last (suc n) pages last at page bytes parts was image are is =
    let number = number_at w32 0 (piece at 8 bytes) in
    let (fine, (rest, behind, split)) = with_part_by at (part_departure pages last (piece at 8 bytes)) (Image (number_at w32 0 (piece at 8 bytes)) (piece (at + 8) 4096 bytes)) (parts_at n pages (number_at w32 0 (piece at 8 bytes)) (at + 4104) bytes) parts are in
    subst (λ (ps : List PagePart). image_in page ps image ≡ image_at bytes (offset_in page at ps was)) split
    (parts_last n pages (number_at w32 0 (piece at 8 bytes)) (at + 4104) page bytes rest (if number_at w32 0 (piece at 8 bytes) == page then Some (at + 8) else was) (if number_at w32 0 (piece at 8 bytes) == page then Some (piece (at + 8) 4096 bytes) else image) behind
    (noted (number_at w32 0 (piece at 8 bytes) == page) bytes (at + 8) was image is))

stand_last : (s : State) (at page : ℕ) (bytes : List ℕ) (rs : List JournalRecord) (end : ℕ) (was : Option ℕ) (image : Option (List ℕ)) → Stand s at bytes rs end → image ≡ image_at bytes was → last_image page rs image ≡ image_at bytes (last_offset page at rs was)
stand_last s at page bytes [] end was image stand is = is
stand_last s at page bytes (r ∷ rs) end was image stand is =
    let has = has_read s at bytes r stand.0 in
    stand_last (next s r) (at + record_size r) page bytes rs end (offset_in page (at + 48) r.parts was) (image_in page r.parts image) stand.1
    (parts_last (number_of (piece at 48 bytes)) s.pages 1 (at + 48) page bytes r.parts was image has.parts_there is)

nothing_at : (bytes : List ℕ) → None ≡ image_at bytes None
unfolding image_at
nothing_at bytes = refl

-- of records that stand in the bytes
pub images_last : (pages end : ℕ) (list : List JournalRecord) (offsets : List (Option ℕ)) (bytes : List ℕ) → HasFront pages list end bytes → ((page : ℕ) → get_or offsets page None ≡ last_offset page 32 list None)
    → (page : ℕ) → image_of page (images_at 0 offsets bytes) ≡ last_image page list None
images_last pages end list offsets bytes front are page =
    images_found page page 0 offsets bytes (omega arith) ∙ ap (image_at bytes) (are page) ∙ sym (stand_last (at_start pages) 32 page bytes list end None None front.stand (nothing_at bytes))
