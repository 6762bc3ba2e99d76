-- A root slot of the images is one of the part that they show.
use Rattle.std.proofs.Common.{◌≡◌, ◌≢◌, ◌<◌, ◌+◌, ◌∙◌, inl, inr, ℕ, Bool, false, cond, not, ◌&&◌, List, length, Option, Some, None, Ok, refl, sym, ap, subst, arith, get_or-set_other, get_or-set_same}
use Rattle.std.proofs.lemmas.Bool.{cases_eq, and_parts}
use Rattle.std.proofs.lemmas.List.FromFn.{get_or-map-range_with_len}
use Rattle.std.specs.Prelude.{slice_index, slice_set}
use Rattle.std.specs.FinMap.{get, insert}
use mathlib.Core.Bool.{true≢false}
use Rattle.pm3_types.specs.declared.type_map.Tail.TheVariants.{Refs}
use Rattle.pm3_types.specs.Fields.{Fields}
use Rattle.pm3_types.specs.Record.{Record}
use Rattle.pm3_types.specs.Graph.{Part}
use Rattle.pm3_types.specs.Layout.{Sheet, is_start, is_forwarded, is_address, page_in, word_in, with_word}
use Rattle.pm3_types.specs.Shown.{Book, Images, IsKnown, FitsImages, list_of, name_by, record_at, object_in, object_at, roots_in, shown_records, shown}
use Rattle.pm3_types.proofs.Books.{shown_alike}
use Rattle.pm3_graph.specs.declared.operations.Op.TheVariants as ops
use Rattle.pm3_graph.specs.Operation.{IsStep, root_of, set_root_of}
use Rattle.pm3_access.proofs.Homes.{some_of}
use Rattle.pm3_access.proofs.HeldSheets.{sheet_same, sheet_other}
use Rattle.pm3_access.proofs.RecordWrites.{refs_written}

module _ (catalog : List Fields) (base : ℕ) (book : Book) (images : Images) (sheet : Sheet) (on : get images 2 ≡ Some sheet) (slot : ℕ) (low : slot < 16) where
  abbrev g : Part
  g = shown catalog base book images

  abbrev names : List ℕ
  names = list_of 16 (λ (k : ℕ). name_by book (slice_index sheet.words (2 + k)))

  roots_are : g.roots ≡ Some names
  roots_are = ap (roots_in catalog base book images) on

  -- a slot that is read
  pub root_step : IsStep catalog (ops.Root slot) (shown catalog base book images) (name_by book (slice_index sheet.words (2 + slot))) (shown catalog base book images)
  root_step =
      ap (root_of g slot) roots_are
      ∙ ap (λ (n : ℕ). Ok (n, g)) (get_or-map-range_with_len (λ (k : ℕ). name_by book (slice_index sheet.words (2 + k))) 0 16 slot slot 0 low (omega arith))

  module _ (a : ℕ) (empty : (s : ℕ) → is_start sheet s ≡ false) where
    abbrev now : Sheet
    now = with_word sheet (2 + slot) a

    -- no object begins on page 2, before and after
    no_object : (t : Sheet) → t.starts ≡ sheet.starts → (at : ℕ) → object_in book catalog (Some t) at ≡ None
    no_object t starts at =
        ap (λ (b : Bool). cond (b && not (is_forwarded (slice_index t.words at))) (Some (record_at book catalog t.words at)) None)
        (ap (λ (bs : List Bool). is_start (record { words = t.words; starts = bs }) at) starts ∙ empty at)

    object_same : (b : ℕ) → object_at book catalog base (insert images 2 now) b ≡ object_at book catalog base images b
    object_same b = ap (λ (o : Option Record). cond (is_address base b) o None) (elim (cases_eq (page_in base b) 2) [
      | inl e ↦ ap (λ (s : Option Sheet). object_in book catalog s (word_in base b)) (sheet_same images 2 (page_in base b) now e) ∙ no_object now refl (word_in base b)
          ∙ sym (ap (λ (s : Option Sheet). object_in book catalog s (word_in base b)) (ap (get images) e ∙ on) ∙ no_object sheet refl (word_in base b))
      | inr ne ↦ ap (λ (s : Option Sheet). object_in book catalog s (word_in base b)) (sheet_other images 2 (page_in base b) now ne)
    ])

    -- a slot that is written
    pub set_root_step : 2 + slot < length sheet.words
        → IsStep catalog (ops.SetRoot slot (name_by book a)) (shown catalog base book images) 0 (shown catalog base book (insert images 2 (with_word sheet (2 + slot) a)))
    set_root_step within =
        let records : shown_records catalog base book images ≡ shown_records catalog base book (insert images 2 now) =
        sym (shown_alike catalog base book images (insert images 2 now) (λ b n named. object_same b)) in
        let written : Some (slice_set names slot (name_by book a)) ≡ roots_in catalog base book (insert images 2 now) (get (insert images 2 now) 2) =
        ap Some (sym (refs_written book sheet.words 2 16 slot a low Refs refl within)) ∙ sym (ap (roots_in catalog base book (insert images 2 now)) (sheet_same images 2 2 now refl)) in
        ap (set_root_of g slot (name_by book a)) roots_are ∙ (λ i. Ok (0, record { records = records i; roots = written i }))

    now_is : (s : Sheet) → get (insert images 2 now) 2 ≡ Some s → now ≡ s
    now_is s there = some_of now s (sym (sheet_same images 2 2 now refl) ∙ there)

    nobody : FitsImages catalog base book images → (b n : ℕ) → get book b ≡ Some n → page_in base b ≢ 2
    nobody fits b n named e =
        let unmoved = (fits.objects b n sheet named (ap (get images) e ∙ on)).1 in
        true≢false (sym (and_parts (is_start sheet (word_in base b)) (not (is_forwarded (slice_index sheet.words (word_in base b)))) unmoved).0 ∙ empty (word_in base b))

    -- a book that has the address still fits
    pub still_fits_roots : 2 + slot < length sheet.words → FitsImages catalog base book images → IsKnown book a
        → FitsImages catalog base book (insert images 2 (with_word sheet (2 + slot) a))
    still_fits_roots within fits known = record {
      one = fits.one;
      named = fits.named;
      objects = λ b n s named there. fits.objects b n s named (sym (sheet_other images 2 (page_in base b) now (nobody fits b n named)) ∙ there);
      references = λ b n k s named there ref. fits.references b n k s named (sym (sheet_other images 2 (page_in base b) now (nobody fits b n named)) ∙ there) ref;
      roots = λ k s below there. elim (cases_eq k slot) [
        | inl e ↦ subst (IsKnown book) (sym (get_or-set_same sheet.words (2 + slot) a 0 within) ∙ ap (λ (i : ℕ). slice_index now.words (2 + i)) (sym e)
            ∙ ap (λ (t : Sheet). slice_index t.words (2 + k)) (now_is s there)) known
        | inr ne ↦ subst (IsKnown book) (sym (get_or-set_other sheet.words (2 + slot) (2 + k) a 0 (λ e. ne (omega arith)))
            ∙ ap (λ (t : Sheet). slice_index t.words (2 + k)) (now_is s there)) (fits.roots k sheet below on)
      ];
    }
