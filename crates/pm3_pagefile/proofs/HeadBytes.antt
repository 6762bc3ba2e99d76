-- The bytes of a head that does not depart from the form are those that are written.
use Rattle.std.proofs.Common.{◌≡◌, ◌≤◌, ◌+◌, ℕ, List, length, drop, true, refl, sym, ap, ◌∙◌, arith}
use Rattle.std.proofs.lemmas.Bool.{and_parts, leb-true}
use Rattle.std.proofs.lemmas.List.{length-drop, take_all}
use Rattle.std.specs.Prelude.{nat_le}
use Rattle.std.specs.Int.{w32, w64, to_le_bytes}
use Rattle.pm3_page.specs.declared.marks.Marks.{Marks}
use Rattle.pm3_page.specs.Head.{head_page}
use Rattle.pm3_types.specs.Bytes.{piece, is_zero, are_zeros}
use Rattle.pm3_types.specs.PageOne.{padded, zeros}
use Rattle.pm3_types.proofs.ZeroBytes.{zeros_at, piece_before}
use Rattle.pm3_pagefile.specs.HeadForm.{kind}

-- zero bytes from byte 40 on
rest_is : (bytes : List ℕ) → length bytes ≡ 4096 → are_zeros 40 4056 bytes ≡ true → drop 40 bytes ≡ zeros 4056
unfolding zeros
rest_is bytes size zero =
    let count : length (drop 40 bytes) ≡ 4056 = length-drop 40 bytes ∙ omega (arith, size) in
    let all : piece 40 4056 bytes ≡ drop 40 bytes = take_all 4056 (drop 40 bytes) (omega (arith, count)) in
    sym all ∙ zeros_at 40 4056 bytes (ap length all ∙ count) zero

-- the bytes of the fields, in order
pub record HasCells (marks : Marks) (bytes : List ℕ) : Type 0 where
  pub kind_is : to_le_bytes w64 kind ≡ piece 0 8 bytes
  pub version : to_le_bytes w32 1 ≡ piece 8 4 bytes
  pub pages : to_le_bytes w32 marks.pages ≡ piece 12 4 bytes
  pub high_page : to_le_bytes w32 marks.high_page ≡ piece 16 4 bytes
  pub gap : to_le_bytes w32 0 ≡ piece 20 4 bytes
  pub next_name : to_le_bytes w64 marks.next_name ≡ piece 24 8 bytes
  pub next_seq : to_le_bytes w64 marks.next_seq ≡ piece 32 8 bytes

head_from : (marks : Marks) (bytes : List ℕ) → length bytes ≡ 4096 → HasCells marks bytes → are_zeros 40 4056 bytes ≡ true → bytes ≡ head_page marks
unfolding padded
head_from marks bytes size cells zero =
    piece_before bytes (to_le_bytes w64 kind) _ 8 0 8 refl cells.kind_is
    (piece_before bytes (to_le_bytes w32 1) _ 4 8 12 refl cells.version
    (piece_before bytes (to_le_bytes w32 marks.pages) _ 4 12 16 refl cells.pages
    (piece_before bytes (to_le_bytes w32 marks.high_page) _ 4 16 20 refl cells.high_page
    (piece_before bytes (to_le_bytes w32 0) _ 4 20 24 refl cells.gap
    (piece_before bytes (to_le_bytes w64 marks.next_name) _ 8 24 32 refl cells.next_name
    (piece_before bytes (to_le_bytes w64 marks.next_seq) (zeros 4056) 8 32 40 refl cells.next_seq
    (rest_is bytes size zero)))))))

-- a page that has the cells and zeros behind them
pub page_from : (marks : Marks) (bytes : List ℕ) → length bytes ≤ 4096 → HasCells marks bytes → are_zeros 40 4056 bytes ≡ true → bytes ≡ head_page marks
unfolding are_zeros
page_from marks bytes most cells ends =
    let parts = and_parts (nat_le (40 + 4056) (length bytes)) (is_zero (piece 40 4056 bytes)) ends in
    let least : 4096 ≤ length bytes = leb-true 4096 (length bytes) parts.0 in
    head_from marks bytes (omega arith) cells ends
