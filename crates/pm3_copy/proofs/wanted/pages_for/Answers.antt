use Rattle.std.proofs.Common.{◌≡◌, ◌+◌, ◌∷◌, ◌∙◌, ℕ, List, [], map, drop, get_or, sym, ap, arith}
use Rattle.pm3_core.specs.declared.naming.TheConstants.{BASE}
use Rattle.pm3_types.specs.PassMoves.{size_from, pages_behind, pages_wanted}
use Rattle.pm3_page.specs.PageSheets.{sheets_of}
use Rattle.pm3_copy.proofs.Settling.{count_here, count_next, drop_sizes, drop_past}
use Rattle.pm3_copy.proofs.wanted.pages_for.Goals as goal
use Rattle.pm3_copy.proofs.wanted.pages_for.Goals.{then-end-words-gt-PAGE_WORDS, else-end-words-gt-PAGE_WORDS}

pub loop-at-preserved : goal.loop-at-preserved
loop-at-preserved c =
    let f : ℕ → ℕ = size_from c.args.catalog.now BASE (sheets_of c.args.images.now.images) in
    let next : map f (drop c.loop-at.at-index c.args.list.now) ≡ f (get_or c.args.list.now c.loop-at.at-index 0) ∷ map f (drop (c.loop-at.at-index + 1) c.args.list.now) =
    drop_sizes f c.args.list.now c.loop-at.at-index c.loop-at-test.true in
    let words : c.size_at-words.result ≡ f (get_or c.args.list.now c.loop-at.at-index 0) = c.size_at-words.ensures.size in
    let so_far = c.loop-at.invariant.so_far in
    let few = c.loop-at.invariant.few in
    let rest : List ℕ = map f (drop (c.loop-at.at-index + 1) c.args.list.now) in
    let now : c.loop-at.pages + pages_behind (c.size_at-words.result ∷ rest) c.loop-at.end ≡ pages_wanted (map f c.args.list.now) =
    ap (λ (w : ℕ). c.loop-at.pages + pages_behind (w ∷ rest) c.loop-at.end) words ∙ ap (λ xs. c.loop-at.pages + pages_behind xs c.loop-at.end) (sym next) ∙ so_far in
    elim c.if-end-words-gt-PAGE_WORDS.branch [
      | then-end-words-gt-PAGE_WORDS w ↦ record {
        so_far = count_next c.loop-at.pages c.loop-at.end c.size_at-words.result c.if-end-words-gt-PAGE_WORDS.pages c.if-end-words-gt-PAGE_WORDS.end (pages_wanted (map f c.args.list.now)) rest now
            w.if-end-words-gt-PAGE_WORDS.true w.pages-is w.end-is;
        few = omega (arith, w.pages-is, few);
        within = omega (arith, w.end-is, c.size_at-words.ensures.bounds);
      }
      | else-end-words-gt-PAGE_WORDS w ↦ record {
        so_far = count_here c.loop-at.pages c.loop-at.end c.size_at-words.result c.if-end-words-gt-PAGE_WORDS.pages c.if-end-words-gt-PAGE_WORDS.end (pages_wanted (map f c.args.list.now)) rest now
            w.if-end-words-gt-PAGE_WORDS.false w.pages-is w.end-is;
        few = omega (arith, w.pages-is, few);
        within = omega (arith, w.end-is, w.if-end-words-gt-PAGE_WORDS.false);
      }
    ]

pub returns : goal.returns
returns c =
    let f : ℕ → ℕ = size_from c.args.catalog.now BASE (sheets_of c.args.images.now.images) in
    let none : map f (drop c.loop-at.at-index c.args.list.now) ≡ [] = drop_past f c.args.list.now c.loop-at.at-index c.loop-at-test.false in
    let so_far = c.loop-at.invariant.so_far in
    let zero_more = ap (λ xs. pages_behind xs c.loop-at.end) none in
    omega (arith, so_far, zero_more)
