use Rattle.std.proofs.Common.{rules, ◌≡◌, ℕ, ◌+◌, ◌-◌, ◌<◌, length, get_or, set, ap, ◌∙◌, arith, length-set, vec_len}
use Rattle.pm3_page.specs.PageMap.{slot_of}
use Rattle.pm3_page.proofs.Indexes.{few_homes, page_in_slots, page_in_words, index_take, slots_taken, slots_moved}
use Rattle.std.proofs.lemmas.List.{get_or_default}
use Rattle.pm3_page.proofs.slots.Slots.take.Goals as goal

pub index_mut-requires : goal.index_mut-requires
index_mut-requires c =
    let index = c.requires.index in
    let few = few_homes c.args.self.now.by_page.items c.args.self.now.homes.items c.args.self.now.held.words.items index in
    let fits = page_in_slots c.args.self.now.by_page.items c.args.page (omega (arith, c.requires.slot, c.requires.there)) in
    let len : vec_len c.args.self.now.by_page ≡ length c.args.self.now.by_page.items = search rules in
    omega arith

pub clear-requires : goal.clear-requires
clear-requires c =
    let few = few_homes c.args.self.now.by_page.items c.args.self.now.homes.items c.args.self.now.held.words.items c.requires.index in
    page_in_words c.args.self.now.by_page.items c.args.self.now.homes.items c.args.self.now.held.words.items c.args.page c.requires.index (omega (arith, c.requires.slot, c.requires.there))

pub overflow_cast-slot : goal.overflow_cast-slot
overflow_cast-slot c =
    let index = c.requires.index in
    let few = few_homes c.args.self.now.by_page.items c.args.self.now.homes.items c.args.self.now.held.words.items index in
    omega (arith, c.requires.there)

pub index_mut-requires-then-slot-len : goal.index_mut-requires-then-slot-len
index_mut-requires-then-slot-len c =
    let index = c.requires.index in
    let few = few_homes c.args.self.now.by_page.items c.args.self.now.homes.items c.args.self.now.held.words.items index in
    let len : vec_len c.args.self.now.homes ≡ length c.args.self.now.homes.items = search rules in
    let one_less : length c.swap_remove.new.self.items + 1 ≡ length c.args.self.now.homes.items = search rules in
    let before : c.args.slot + 1 < length c.args.self.now.homes.items = omega (arith, c.if-slot-len.true, c.len.ensures, c.swap_remove.ensures.len) in
    let there : length c.args.self.now.homes.items - 1 < length c.args.self.now.homes.items = omega arith in
    let is_moved : c.from-moved.result ≡ get_or c.args.self.now.homes.items (length c.args.self.now.homes.items - 1) 0 =
    c.from-moved.ensures ∙ c.index.ensures ∙ c.swap_remove.ensures.by_index.0 c.index.result.now (omega arith)
    ∙ ap (λ (n : ℕ). get_or c.args.self.now.homes.items (n - 1) c.index.result.now) len ∙ get_or_default c.args.self.now.homes.items (length c.args.self.now.homes.items - 1) c.index.result.now 0 there in
    let back = ap (slot_of c.args.self.now.by_page.items) is_moved ∙ index.home (length c.args.self.now.homes.items - 1) there in
    let fits = page_in_slots c.args.self.now.by_page.items c.from-moved.result (omega arith) in
    let slots_len : vec_len c.args.self.now.by_page ≡ length c.args.self.now.by_page.items = search rules in
    omega arith

pub returns-then-slot-len-clause-index : goal.returns-then-slot-len-clause-index
returns-then-slot-len-clause-index c =
    let index = c.requires.index in
    let few = few_homes c.args.self.now.by_page.items c.args.self.now.homes.items c.args.self.now.held.words.items index in
    let len : vec_len c.args.self.now.homes ≡ length c.args.self.now.homes.items = search rules in
    let one_less : length c.swap_remove.new.self.items + 1 ≡ length c.args.self.now.homes.items = search rules in
    let before : c.args.slot + 1 < length c.args.self.now.homes.items = omega (arith, c.if-slot-len.true, c.len.ensures, c.swap_remove.ensures.len) in
    let there : length c.args.self.now.homes.items - 1 < length c.args.self.now.homes.items = omega arith in
    let is_moved : c.from-moved.result ≡ get_or c.args.self.now.homes.items (length c.args.self.now.homes.items - 1) 0 =
    c.from-moved.ensures ∙ c.index.ensures ∙ c.swap_remove.ensures.by_index.0 c.index.result.now (omega arith)
    ∙ ap (λ (n : ℕ). get_or c.args.self.now.homes.items (n - 1) c.index.result.now) len ∙ get_or_default c.args.self.now.homes.items (length c.args.self.now.homes.items - 1) c.index.result.now 0 there in
    index_take c.args.self.now.by_page.items c.args.self.now.homes.items c.args.self.now.held.words.items (set (set c.args.self.now.by_page.items c.args.page 65535) c.from-moved.result c.args.slot) c.swap_remove.new.self.items c.clear.new.self.words.items c.args.page c.args.slot index c.requires.slot c.requires.there one_less
    (λ lt. c.swap_remove.ensures.by_index.0 0 (omega arith) ∙ ap (λ (n : ℕ). get_or c.args.self.now.homes.items (n - 1) 0) len)
    (λ k ne lt. c.swap_remove.ensures.by_index.1 k 0 ne (omega arith))
    (λ q. slots_moved c.args.self.now.by_page.items c.args.self.now.homes.items c.args.self.now.held.words.items c.args.page c.args.slot c.from-moved.result q index c.requires.slot before is_moved)
    c.clear.ensures.cleared (rw length-set (rw length-set index.long)) (omega (arith, c.clear.ensures.long, index.short))

pub returns-then-slot-len-clause-slots : goal.returns-then-slot-len-clause-slots
returns-then-slot-len-clause-slots c =
    let index = c.requires.index in
    let few = few_homes c.args.self.now.by_page.items c.args.self.now.homes.items c.args.self.now.held.words.items index in
    let len : vec_len c.args.self.now.homes ≡ length c.args.self.now.homes.items = search rules in
    let one_less : length c.swap_remove.new.self.items + 1 ≡ length c.args.self.now.homes.items = search rules in
    let before : c.args.slot + 1 < length c.args.self.now.homes.items = omega (arith, c.if-slot-len.true, c.len.ensures, c.swap_remove.ensures.len) in
    let there : length c.args.self.now.homes.items - 1 < length c.args.self.now.homes.items = omega arith in
    let is_moved : c.from-moved.result ≡ get_or c.args.self.now.homes.items (length c.args.self.now.homes.items - 1) 0 =
    c.from-moved.ensures ∙ c.index.ensures ∙ c.swap_remove.ensures.by_index.0 c.index.result.now (omega arith)
    ∙ ap (λ (n : ℕ). get_or c.args.self.now.homes.items (n - 1) c.index.result.now) len ∙ get_or_default c.args.self.now.homes.items (length c.args.self.now.homes.items - 1) c.index.result.now 0 there in
    λ q. slots_moved c.args.self.now.by_page.items c.args.self.now.homes.items c.args.self.now.held.words.items c.args.page c.args.slot c.from-moved.result q index c.requires.slot before is_moved

pub returns-else-slot-len-clause-index : goal.returns-else-slot-len-clause-index
returns-else-slot-len-clause-index c =
    let index = c.requires.index in
    let few = few_homes c.args.self.now.by_page.items c.args.self.now.homes.items c.args.self.now.held.words.items index in
    let len : vec_len c.args.self.now.homes ≡ length c.args.self.now.homes.items = search rules in
    let one_less : length c.swap_remove.new.self.items + 1 ≡ length c.args.self.now.homes.items = search rules in
    let is_last : c.args.slot + 1 ≡ length c.args.self.now.homes.items = omega (arith, c.requires.there, c.if-slot-len.false, c.len.ensures, c.swap_remove.ensures.len) in
    index_take c.args.self.now.by_page.items c.args.self.now.homes.items c.args.self.now.held.words.items (set c.args.self.now.by_page.items c.args.page 65535) c.swap_remove.new.self.items c.clear.new.self.words.items c.args.page c.args.slot index c.requires.slot c.requires.there one_less
    (λ lt. c.swap_remove.ensures.by_index.0 0 (omega arith) ∙ ap (λ (n : ℕ). get_or c.args.self.now.homes.items (n - 1) 0) len)
    (λ k ne lt. c.swap_remove.ensures.by_index.1 k 0 ne (omega arith))
    (λ q. slots_taken c.args.self.now.by_page.items c.args.self.now.homes.items c.args.self.now.held.words.items c.args.page c.args.slot q index c.requires.slot is_last)
    c.clear.ensures.cleared (rw length-set index.long) (omega (arith, c.clear.ensures.long, index.short))

pub returns-else-slot-len-clause-slots : goal.returns-else-slot-len-clause-slots
returns-else-slot-len-clause-slots c =
    let index = c.requires.index in
    let few = few_homes c.args.self.now.by_page.items c.args.self.now.homes.items c.args.self.now.held.words.items index in
    let len : vec_len c.args.self.now.homes ≡ length c.args.self.now.homes.items = search rules in
    let one_less : length c.swap_remove.new.self.items + 1 ≡ length c.args.self.now.homes.items = search rules in
    let is_last : c.args.slot + 1 ≡ length c.args.self.now.homes.items = omega (arith, c.requires.there, c.if-slot-len.false, c.len.ensures, c.swap_remove.ensures.len) in
    λ q. slots_taken c.args.self.now.by_page.items c.args.self.now.homes.items c.args.self.now.held.words.items c.args.page c.args.slot q index c.requires.slot is_last
