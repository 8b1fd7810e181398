use Rattle.std.proofs.Common.{◌≡◌, ◌-◌, ◌^◌, arith, ap, ◌∙◌}
use Rattle.pager_model.proofs.ExtentLemmas.{eight_pos, eight_small, part_of_eight, aligned_part, aligned_end}
use Rattle.reservations.proofs.places.UsedPlaces.part.Goals as goal

pub overflow_mul-first : goal.overflow_mul-first
overflow_mul-first c =
    let r = c.args.whole.now in
    let pages : c.pages.result ≡ 8 ^ (r.size - 1) = c.pages.ensures ∙ ap (λ k. 8 ^ k) c.smaller-size.ensures in
    rw pages (omega (arith, part_of_eight c.args.i r.size c.requires.splits c.requires.one, eight_small r.size c.requires.placed.aligned.0))

pub overflow_add-first : goal.overflow_add-first
overflow_add-first c =
    let r = c.args.whole.now in
    let pages : c.pages.result ≡ 8 ^ (r.size - 1) = c.pages.ensures ∙ ap (λ k. 8 ^ k) c.smaller-size.ensures in
    let ends = part_of_eight c.args.i r.size c.requires.splits c.requires.one in
    let last = aligned_end r.size r.frame c.requires.placed.aligned.0 c.requires.placed.aligned.1 (omega arith) in
    rw pages (omega (arith, ends, last, eight_pos (r.size - 1)))

pub is_empty-requires-clause-aligned : goal.is_empty-requires-clause-aligned
is_empty-requires-clause-aligned c =
    let r = c.args.whole.now in
    let pages : c.pages.result ≡ 8 ^ (r.size - 1) = c.pages.ensures ∙ ap (λ k. 8 ^ k) c.smaller-size.ensures in
    rw (pages, c.smaller-size.ensures) (
      omega (arith, c.requires.placed.aligned.0),
      aligned_part (r.size - 1) r.size r.frame c.args.i
          (omega arith) c.requires.placed.aligned.1,
    )

pub is_empty-requires-clause-known : goal.is_empty-requires-clause-known
is_empty-requires-clause-known c =
    let r = c.args.whole.now in
    let pages : c.pages.result ≡ 8 ^ (r.size - 1) = c.pages.ensures ∙ ap (λ k. 8 ^ k) c.smaller-size.ensures in
    let ends = part_of_eight c.args.i r.size c.requires.splits c.requires.one in
    rw pages (omega (arith, ends, c.requires.placed.within, eight_pos (r.size - 1)))
