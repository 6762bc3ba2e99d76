use Rattle.std.proofs.Common.{rules, arith, ◌≡◌, ◌<◌, ◌++◌, ◌∙◌, ℕ, List, length, take, drop, get_or, sym, ap, subst}
use Rattle.std.proofs.lemmas.List.{take_at}
use Rattle.pm3_types.specs.PageForm.{IsSound}
use Rattle.pm3_page.specs.PageBytes.{words_in, bytes_of, file_bytes}
use Rattle.pm3_page.proofs.WordBytes.{length-words_in, bytes_of-words_in}
use Rattle.pm3_page.proofs.FileForms.{pass-length, read_sound, read_same}
use Rattle.pm3_page.proofs.images.Image.from_file.Goals as goal

-- a list lent whole
whole : (n : ℕ) (words rest : List ℕ) → length words ≡ n → take n (words ++ drop (length words) rest) ≡ words
whole n words rest all = take_at words (drop (length words) rest) n all

pub invariant_of-result : goal.invariant_of-result
invariant_of-result c =
    let all : length c.read.new.words ≡ c.in-Ok.words.len = search rules in
    let long : length c.read.new.words ≡ 512 = search rules in
    let lengths = pass-length c.args.catalog.now _ c.args.page (words_in 512 c.args.bytes.now) _ (length-words_in 512 c.args.bytes.now) c.in-Ok-read.ensures in
    record {
      words = ap length (whole c.in-Ok.words.len c.read.new.words c.in-Ok.words.items all) ∙ long;
      starts = lengths.1;
      above = c.requires.page.0;
      below = omega arith;
    }

pub returns-in-Ok-read-clause-sound : goal.returns-in-Ok-read-clause-sound
returns-in-Ok-read-clause-sound c =
    let all : length c.read.new.words ≡ c.in-Ok.words.len = search rules in
    subst (λ (words : List ℕ). IsSound c.args.catalog.now 17592186044416 c.args.pages (record { page = c.args.page; sheet = record { words = words; starts = c.read.new.starts } }))
    (sym (whole c.in-Ok.words.len c.read.new.words c.in-Ok.words.items all))
    (read_sound c.args.catalog.now 17592186044416 c.args.pages c.args.page (words_in 512 c.args.bytes.now) _ (length-words_in 512 c.args.bytes.now) c.in-Ok-read.ensures)

pub returns-in-Ok-read-clause-same : goal.returns-in-Ok-read-clause-same
returns-in-Ok-read-clause-same c =
    let all : length c.read.new.words ≡ c.in-Ok.words.len = search rules in
    let low : (k : ℕ) → get_or c.args.bytes.now k 0 < 256 = search rules in
    subst (λ (words : List ℕ). file_bytes c.args.catalog.now 17592186044416 (record { page = c.args.page; sheet = record { words = words; starts = c.read.new.starts } }) ≡ c.args.bytes.now)
    (sym (whole c.in-Ok.words.len c.read.new.words c.in-Ok.words.items all))
    (ap bytes_of (read_same c.args.catalog.now 17592186044416 c.args.pages c.args.page (words_in 512 c.args.bytes.now) _ c.requires.pages (length-words_in 512 c.args.bytes.now) c.in-Ok-read.ensures)
    ∙ bytes_of-words_in 512 c.args.bytes.now (search rules) low)
