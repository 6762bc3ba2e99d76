-- Words that were written over others.
use Rattle.std.proofs.Common.{◌≡◌, ◌<◌, ◌≤◌, ◌+◌, ◌-◌, ◌∙◌, ◌++◌, ℕ, List, length, get_or, take, drop, ap, arith, length-append, length-drop}
use Rattle.std.proofs.Math.ListN.{get_or-append}
use Rattle.std.proofs.lemmas.List.{get_or-take, get_or-drop, get_or-append_right, length-take-le}
use Rattle.pm3_types.specs.Layout.{Sheet}
use Rattle.pm3_page.specs.Overwriting.{overwritten, words_at}

module _ (words : List ℕ) (from : ℕ) (new : List ℕ) (within : from + length new ≤ length words) where
  front : length (take from words) ≡ from
  front = length-take-le from words (omega arith)

  middle : length (take from words ++ new) ≡ from + length new
  middle = length-append (take from words) new ∙ ap (λ n. n + length new) front

  pub over_long : length (overwritten words from new) ≡ length words
  over_long = (let all = length-append (take from words ++ new) (drop (from + length new) words) in let last = length-drop (from + length new) words in let m = middle in omega arith)

  pub over_before : (i : ℕ) → i < from → get_or (overwritten words from new) i 0 ≡ get_or words i 0
  over_before i low =
      let m = middle in
      let f = front in
      get_or-append (take from words ++ new) (drop (from + length new) words) 0 i (omega arith) ∙ get_or-append (take from words) new 0 i (omega arith) ∙ get_or-take from words i 0 low

  pub over_within : (i : ℕ) → from ≤ i → i < from + length new → get_or (overwritten words from new) i 0 ≡ get_or new (i - from) 0
  over_within i low high = (let m = middle in get_or-append (take from words ++ new) (drop (from + length new) words) 0 i (omega arith) ∙ get_or-append_right (take from words) new from i 0 front low)

  pub over_behind : (i : ℕ) → from + length new ≤ i → get_or (overwritten words from new) i 0 ≡ get_or words i 0
  over_behind i past =
      get_or-append_right (take from words ++ new) (drop (from + length new) words) (from + length new) i 0 middle past ∙ get_or-drop (from + length new) words (i - (from + length new)) 0
      ∙ ap (λ n. get_or words n 0) (omega arith)

-- the words of an object
pub words_at-long : (sheet : Sheet) (from size : ℕ) → from + size ≤ length sheet.words → length (words_at sheet from size) ≡ size
words_at-long sheet from size within = length-take-le size (drop from sheet.words) (let rest = length-drop from sheet.words in omega arith)

pub word_at : (sheet : Sheet) (from size k : ℕ) → k < size → get_or (words_at sheet from size) k 0 ≡ get_or sheet.words (from + k) 0
word_at sheet from size k low = get_or-take size (drop from sheet.words) k 0 low ∙ get_or-drop from sheet.words k 0
