use Rattle.std.proofs.Common.{rules, ◌≡◌, ◌∙◌, ℕ, length, ap}
use Rattle.pm3_page.specs.PageBytes.{words_in}
use Rattle.pm3_page.proofs.WordBytes.{read-words_in}
use Rattle.pm3_page.proofs.page_file.into_words.Goals as goal

pub returns : goal.returns
returns c =
    let all : length c.read_u64_into.new.dst ≡ 512 = search rules in
    read-words_in c.args.bytes.now c.read_u64_into.new.dst c.read_u64_into.ensures ∙ ap (λ (n : ℕ). words_in n c.args.bytes.now) all
