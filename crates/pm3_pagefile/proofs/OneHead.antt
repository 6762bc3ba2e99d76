-- The bytes of marks have the form and tell the marks.
use Rattle.std.proofs.Common.{◌≡◌, ◌≤◌, ◌<◌, ◌+◌, ◌-◌, ◌^◌, Bool, ℕ, List, length, Option, None, true, refl, sym, arith, ap, ◌∙◌, length-append}
use Rattle.std.proofs.lemmas.List.{length-replicate}
use Rattle.std.proofs.lemmas.Nat.{from_le_bytes-to_le_bytes_4, from_le_bytes-to_le_bytes_8}
use Rattle.std.specs.Int.{w32, w64}
use Rattle.std.specs.Option.{option_or}
use Rattle.pm3_page.specs.declared.marks.Marks.{Marks}
use Rattle.pm3_page.specs.Head.{head_bytes, head_page}
use Rattle.pm3_types.specs.Bytes.{Field, number_at, are_zeros, has_field, offset_of, unless}
use Rattle.pm3_types.specs.Bytes.Field.{Number, Zeros}
use Rattle.pm3_types.specs.PageOne.{padded, zeros}
use Rattle.pm3_types.proofs.ZeroBytes.{between, is_zero-replicate, zeros_there}
use Rattle.pm3_pagefile.specs.HeadForm.{kind}
use Rattle.pm3_pagefile.specs.HeadLaws.{HeadHasForm, OneHead}

length-zeros : (n : ℕ) → length (zeros n) ≡ n
unfolding zeros
length-zeros n = length-replicate n 0

pub size : (marks : Marks) → length (head_page marks) ≡ 4096
unfolding padded
size marks = length-append (head_bytes marks) (zeros 4056) ∙ ap (λ (n : ℕ). 40 + n) (length-zeros 4056)

ends : (marks : Marks) → are_zeros 40 4056 (head_page marks) ≡ true
unfolding padded zeros
ends marks = zeros_there 40 4056 (head_page marks) (omega (arith, size marks)) (is_zero-replicate 4056)

module _ (marks : Marks) where
  kind_at : number_at w64 0 (head_page marks) ≡ kind
  unfolding number_at padded
  kind_at = refl

  version_at : number_at w32 8 (head_page marks) ≡ 1
  unfolding number_at padded
  version_at = refl

  pages_at : marks.pages < 2 ^ 32 → number_at w32 12 (head_page marks) ≡ marks.pages
  unfolding number_at padded
  pages_at fits = from_le_bytes-to_le_bytes_4 marks.pages fits

  high_page_at : marks.high_page < 2 ^ 32 → number_at w32 16 (head_page marks) ≡ marks.high_page
  unfolding number_at padded
  high_page_at fits = from_le_bytes-to_le_bytes_4 marks.high_page fits

  gap_at : number_at w32 20 (head_page marks) ≡ 0
  unfolding number_at padded
  gap_at = refl

  next_name_at : marks.next_name < 2 ^ 64 → number_at w64 24 (head_page marks) ≡ marks.next_name
  unfolding number_at padded
  next_name_at fits = from_le_bytes-to_le_bytes_8 marks.next_name fits

  next_seq_at : marks.next_seq < 2 ^ 64 → number_at w64 32 (head_page marks) ≡ marks.next_seq
  unfolding number_at padded
  next_seq_at fits = from_le_bytes-to_le_bytes_8 marks.next_seq fits

-- one field more that is as the form says
good : (field : Field) (bytes : List ℕ) {later : Option ℕ} → has_field bytes field ≡ true → later ≡ None → option_or (unless (has_field bytes field) (offset_of field)) later ≡ None
good field bytes {later} is none = ap (λ (b : Bool). option_or (unless b (offset_of field)) later) is ∙ none

pub head_has_form : HeadHasForm
head_has_form marks are =
    let page : List ℕ = head_page marks in
    let long : length (head_page marks) ≡ 4096 = size marks in
    let pages : number_at w32 12 (head_page marks) ≡ marks.pages = pages_at marks (omega (arith, are.pages)) in
    let high_page : number_at w32 16 (head_page marks) ≡ marks.high_page = high_page_at marks (omega (arith, are.pages, are.high_page)) in
    let next_name : number_at w64 24 (head_page marks) ≡ marks.next_name = next_name_at marks (omega (arith, are.next_name)) in
    let next_seq : number_at w64 32 (head_page marks) ≡ marks.next_seq = next_seq_at marks are.next_seq.1 in
    let highest : marks.high_page ≤ number_at w32 12 (head_page marks) = omega (arith, pages, are.high_page) in
    good (Number 0 w64 kind kind) page (between 0 w64 kind kind kind page (omega arith) (kind_at marks) (omega arith) (omega arith))
    (good (Number 8 w32 1 1) page (between 8 w32 1 1 1 page (omega arith) (version_at marks) (omega arith) (omega arith))
    (good (Number 12 w32 16 16384) page (between 12 w32 16 16384 marks.pages page (omega arith) pages are.pages.0 are.pages.1)
    (good (Number 16 w32 3 (number_at w32 12 page)) page (between 16 w32 3 (number_at w32 12 page) marks.high_page page (omega arith) high_page are.high_page.0 highest)
    (good (Number 20 w32 0 0) page (between 20 w32 0 0 0 page (omega arith) (gap_at marks) (omega arith) (omega arith))
    (good (Number 24 w64 1 (2 ^ 62)) page (between 24 w64 1 (2 ^ 62) marks.next_name page (omega arith) next_name are.next_name.0 are.next_name.1)
    (good (Number 32 w64 1 (2 ^ 64 - 1)) page (between 32 w64 1 (2 ^ 64 - 1) marks.next_seq page (omega arith) next_seq are.next_seq.0 (omega (arith, are.next_seq)))
    (good (Zeros 40 4056) page (ends marks) refl)))))))

pub one_head : OneHead
one_head marks others are also same =
    let pages : marks.pages ≡ others.pages =
    sym (pages_at marks (omega (arith, are.pages))) ∙ ap (number_at w32 12) same ∙ pages_at others (omega (arith, also.pages))
    in
    let high_page : marks.high_page ≡ others.high_page =
    sym (high_page_at marks (omega (arith, are.pages, are.high_page))) ∙ ap (number_at w32 16) same ∙ high_page_at others (omega (arith, also.pages, also.high_page))
    in
    let next_name : marks.next_name ≡ others.next_name =
    sym (next_name_at marks (omega (arith, are.next_name))) ∙ ap (number_at w64 24) same ∙ next_name_at others (omega (arith, also.next_name))
    in
    let next_seq : marks.next_seq ≡ others.next_seq = sym (next_seq_at marks are.next_seq.1) ∙ ap (number_at w64 32) same ∙ next_seq_at others also.next_seq.1 in
    λ i. record { pages = pages i; high_page = high_page i; next_name = next_name i; next_seq = next_seq i }
