use Rattle.std.proofs.Common.{◌≡◌, ◌∙◌, ◌+◌, ◌<◌, length, ℕ, ◌-◌, Bool, true, List, ◌++◌, take, drop, set, ap, sym, arith}
use Rattle.std.proofs.Math.Seq.{take-append_seam}
use Rattle.std.proofs.lemmas.List.{get_or_default}
use Rattle.pm3_core.specs.declared.naming.TheConstants.{BASE}
use Rattle.pm3_types.specs.Layout.{PageImage, word_in, end_of, end_by, used_in, page_head}
use Rattle.pm3_page.specs.Overwriting.{copied_on, overwritten, words_at}
use Rattle.pm3_page.proofs.images.Image.place_copy.Goals as goal

-- a whole table that was lent as a slice
whole_table : (n : ℕ) (new old : List ℕ) → n ≡ length new → take n (new ++ drop (length new) old) ≡ new
whole_table n new old is = ap (λ k. take k (new ++ drop (length new) old)) is ∙ take-append_seam new (drop (length new) old)

-- the image, from its parts
from_parts : (old : PageImage) (page end size first : ℕ) (starts now_starts : List Bool) (words new object : List ℕ) → old.page ≡ page → old.sheet.starts ≡ starts → old.sheet.words ≡ words → end ≡ end_of old.sheet
    → new ≡ overwritten words end object → first ≡ page_head page (end + size) → now_starts ≡ set starts end true
    → record { page = page; sheet = record { words = set new 0 first; starts = now_starts } } ≡ copied_on old size object
from_parts old page end size first starts now_starts words new object page_is starts_is words_is end_is new_is first_is now_is =
    let same : new ≡ overwritten old.sheet.words (end_of old.sheet) object = new_is ∙ (λ i. overwritten (sym words_is i) (end_is i) object) in
    let head : first ≡ page_head old.page (end_of old.sheet + size) = first_is ∙ (λ i. page_head (sym page_is i) (end_is i + size)) in
    let begins : now_starts ≡ set old.sheet.starts (end_of old.sheet) true = now_is ∙ (λ i. set (sym starts_is i) (end_is i) true) in
    let page_too = sym page_is in
    λ i. record { page = page_too i; sheet = record { words = set (same i) 0 (head i); starts = begins i } }

pub returns-clause-placed : goal.returns-clause-placed
returns-clause-placed c =
    let from = c.word_within-from.result in
    let size : from + c.args.size - from ≡ c.args.size = omega arith in
    let long : c.self.inside.words.len ≡ length c.write_words.new.words = sym (c.write_words.ensures.same ∙ c.deref_mut.ensures.len) in
    let some : 0 < length c.self.inside.words.items = omega (arith, c.self.invariant.words) in
    let end : c.end_part-end.result ≡ end_of c.args.self.now.sheet =
    c.end_part-end.ensures.end ∙ ap (λ n. end_by (used_in n)) (c.index.ensures ∙ get_or_default c.self.inside.words.items 0 c.index.result.now 0 some) ∙ ap (λ (i : PageImage). end_of i.sheet) c.self.view_is in
    let table = whole_table c.self.inside.words.len c.write_words.new.words c.self.inside.words.items long in
    let source : c.deref.result.now ≡ c.args.source.now.sheet.words = c.deref.ensures.value ∙ ap (λ (i : PageImage). i.sheet.words) c.source.view_is in
    let object : take (from + c.args.size - from) (drop from c.deref.result.now) ≡ words_at c.args.source.now.sheet (word_in BASE c.args.at) c.args.size =
    λ i. take (size i) (drop (c.word_within-from.ensures.word i) (source i)) in
    let new : c.write_words.new.words ≡ overwritten c.self.inside.words.items c.end_part-end.result (words_at c.args.source.now.sheet (word_in BASE c.args.at) c.args.size) =
    c.write_words.ensures.written ∙ (λ i. overwritten (c.deref_mut.ensures.value i) c.end_part-end.result (object i)) in
    ap (λ (xs : List ℕ). record { page = c.self.inside.page; sheet = record { words = set xs 0 c.first_word.result; starts = c.add.new.self } }) table
    ∙ from_parts c.args.self.now c.self.inside.page c.end_part-end.result c.args.size c.first_word.result c.self.inside.starts c.add.new.self c.self.inside.words.items c.write_words.new.words
    (words_at c.args.source.now.sheet (word_in BASE c.args.at) c.args.size) (sym (ap (λ (i : PageImage). i.page) c.self.view_is)) (sym (ap (λ (i : PageImage). i.sheet.starts) c.self.view_is))
    (sym (ap (λ (i : PageImage). i.sheet.words) c.self.view_is)) end new c.first_word.ensures c.add.ensures
