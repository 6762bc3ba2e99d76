use Rattle.std.proofs.Common.{rules, ◌≡◌, ◌<◌, ◌^◌, ◌∙◌, ℕ, get_or, ap, sym}
use Rattle.pm3_page.specs.PageBytes.{bytes_of, words_in}
use Rattle.pm3_page.proofs.WordBytes.{words_in-bytes_of}
use Rattle.pm3_page.proofs.page_file.into_bytes.Goals as goal

pub returns-clause-bytes : goal.returns-clause-bytes
unfolding bytes_of
returns-clause-bytes c = search rules

pub returns-clause-back : goal.returns-clause-back
unfolding bytes_of
returns-clause-back c =
    let low : (k : ℕ) → get_or c.args.words.now k 0 < 2 ^ 64 = search rules in
    let written : c.write_u64_into.new.dst ≡ bytes_of c.args.words.now = search rules in
    ap (words_in 512) written ∙ ap (λ (n : ℕ). words_in n (bytes_of c.args.words.now)) (sym c.requires.words) ∙ words_in-bytes_of c.args.words.now low
