-- The words of a page on which a new object was placed.
use Rattle.std.proofs.Common.{◌≡◌, ◌≢◌, ◌<◌, ◌≤◌, ◌+◌, ◌-◌, ◌*◌, ◌^◌, ◌∙◌, ℕ, zero, suc, true, false, List, length, get_or, set, replicate, refl, sym, arith, length-set, get_or-set_other, get_or-set_same}
use Rattle.std.proofs.lemmas.Bool.{false_from_ne_true, leb-true}
use Rattle.std.proofs.lemmas.List.{length-replicate}
use mathlib.Core.Bool.{true≢false}
use Rattle.pm3_types.specs.Fields.{Fields}
use Rattle.pm3_types.specs.Layout.{Sheet, IsLaid, blank_sheet, is_start, is_forwarded, type_in, tail_in, end_of, used_in, head_of, page_head, zeroed, placed}
use Rattle.pm3_types.proofs.FormedObjects.{blank_starts}
use Rattle.pm3_types.proofs.ZeroedWords.{length-zeroed, zeroed_before, zeroed_within}

module _ (catalog : List Fields) (page : ℕ) (sheet : Sheet) (size head name : ℕ) (laid : IsLaid catalog sheet) (two : 2 ≤ size) (fits : end_of sheet + size ≤ 512) where
  abbrev now : Sheet
  now = placed page sheet size head name

  abbrev cleared : List ℕ
  cleared = zeroed sheet.words (end_of sheet) (end_of sheet + size)

  abbrev first : ℕ
  first = page_head page (end_of sheet + size)

  all : length cleared ≡ 512
  all = length-zeroed sheet.words (end_of sheet) (end_of sheet + size) (omega arith) (omega (arith, laid.words)) ∙ laid.words

  begin : 2 ≤ end_of sheet
  begin = laid.end.0

  -- a word that is neither the page's first nor the object's first two
  other_word : (i : ℕ) → i ≢ 0 → i ≢ end_of sheet → i ≢ end_of sheet + 1 → get_or now.words i 0 ≡ get_or cleared i 0
  other_word i a b c =
      get_or-set_other (set (set cleared 0 first) (end_of sheet) head) (end_of sheet + 1) i name 0 c
      ∙ get_or-set_other (set cleared 0 first) (end_of sheet) i head 0 b
      ∙ get_or-set_other cleared 0 i first 0 a

  -- what was there is as it was, but for the page's first word
  pub word_before : (i : ℕ) → 0 < i → i < end_of sheet → get_or now.words i 0 ≡ get_or sheet.words i 0
  word_before i some below =
      other_word i (λ e. omega arith) (λ e. omega arith) (λ e. omega arith)
      ∙ zeroed_before sheet.words (end_of sheet) (end_of sheet + size) (omega arith) (omega (arith, laid.words)) i below

  -- the body of the new object is 0
  pub word_within : (i : ℕ) → end_of sheet + 2 ≤ i → i < end_of sheet + size → get_or now.words i 0 ≡ 0
  word_within i from until =
      other_word i (λ e. omega arith) (λ e. omega arith) (λ e. omega arith)
      ∙ zeroed_within sheet.words (end_of sheet) (end_of sheet + size) (omega arith) (omega (arith, laid.words)) i (omega arith) until

  pub at_head : get_or now.words (end_of sheet) 0 ≡ head
  at_head =
      get_or-set_other (set (set cleared 0 first) (end_of sheet) head) (end_of sheet + 1) (end_of sheet) name 0 (λ e. omega arith)
      ∙ get_or-set_same (set cleared 0 first) (end_of sheet) head 0 (omega (arith, length-set cleared 0 first, all))

  pub at_name : get_or now.words (end_of sheet + 1) 0 ≡ name
  at_name =
      get_or-set_same (set (set cleared 0 first) (end_of sheet) head) (end_of sheet + 1) name 0
      (omega (arith, length-set (set cleared 0 first) (end_of sheet) head, length-set cleared 0 first, all))

  pub start_here : is_start now (end_of sheet) ≡ true
  start_here = get_or-set_same sheet.starts (end_of sheet) true false (omega (arith, laid.starts))

  pub start_else : (t : ℕ) → t ≢ end_of sheet → is_start now t ≡ is_start sheet t
  start_else t apart = get_or-set_other sheet.starts (end_of sheet) t true false apart

-- the type and the tail that a head was made of
pub type_of_head : (ty tail : ℕ) → ty < 65536 → type_in (head_of ty tail) ≡ ty
unfolding type_in head_of
type_of_head ty tail low = omega arith

pub tail_of_head : (ty tail : ℕ) → ty < 65536 → tail < 2 ^ 32 → tail_in (head_of ty tail) ≡ tail
unfolding tail_in head_of
tail_of_head ty tail low small = omega arith

pub head_unmoved : (ty tail : ℕ) → ty < 65536 → tail < 2 ^ 32 → is_forwarded (head_of ty tail) ≡ false
unfolding is_forwarded head_of
head_unmoved ty tail low small = false_from_ne_true _ (λ e. let high : 2 ^ 63 ≤ ty + 65536 * tail = leb-true (2 ^ 63) (ty + 65536 * tail) e in omega arith)

abbrev none : ℕ
none = 0

-- on a page of zeros no object lies
zeros_read : (n i : ℕ) → get_or (replicate n none) i 0 ≡ 0
zeros_read zero i = refl
zeros_read (suc n) zero = refl
zeros_read (suc n) (suc i) = zeros_read n i

blank_end : end_of blank_sheet ≡ 2
unfolding used_in
blank_end = refl

pub blank_laid : (catalog : List Fields) → IsLaid catalog blank_sheet
blank_laid catalog = record {
  words = length-replicate 512 none;
  starts = length-replicate 512 false;
  end = (omega (arith, blank_end), omega (arith, blank_end));
  first = λ more. absurd (omega (arith, blank_end));
  whole = λ s is. absurd (nowhere s is);
  apart = λ s t is above below. blank_starts 512 t;
  next = λ s is more. absurd (nowhere s is);
  rest = λ i past. zeros_read 512 i;
}
  where
    nowhere : (s : ℕ) → is_start blank_sheet s ≡ true → ⊥
    nowhere s is = true≢false (sym is ∙ blank_starts 512 s)
