use Rattle.std.proofs.Common.{◌≡◌, ◌<◌, ◌≤◌, ℕ, Bool, true, false, ◌&&◌, nat_lt, ap, sym, ◌∙◌, arith}
use Rattle.std.proofs.lemmas.Bool.Decides.{nat_tests}
use Rattle.pager_model.specs.Regions.{in_range}
use Rattle.pager_model.proofs.CountLemmas.{weight}
use Rattle.tiles.specs.Resident.{mapping_at}
use Rattle.tiles.specs.Sized.{begins_large_in, begins_before_in}
use Rattle.tiles.proofs.Blocks.{one_most}
use Rattle.tiles.proofs.Counting.{count_pages_most}
use Rattle.tiles.proofs.Meeting.{tiles_meeting}
use Rattle.tiles.proofs.base.Base.tiles_meeting.Goals as goal
use Rattle.tiles.proofs.base.Base.tiles_meeting.Goals.{then-length-gt0, else-length-gt0}

lt_yes : (n : ℕ) → 0 < n → nat_lt 0 n ≡ true
lt_yes n h = grind (arith, nat_tests)

lt_no : (n : ℕ) → n ≤ 0 → nat_lt 0 n ≡ false
lt_no n h = grind (arith, nat_tests)

-- the tile that crosses the range's first page counts once
module _ (c : goal.After-from) where
  as_number : (b : Bool) → c.if-length-gt0.crossing ≡ b → c.from.result ≡ weight b
  as_number true e = rw e at c.from.ensures
  as_number false e = rw e at c.from.ensures

  crosses : c.if-length-gt0.crossing ≡ (nat_lt 0 c.args.length && begins_before_in c.args.sizes (mapping_at c.args.self.now) c.args.first)
  crosses =
      let behind = begins_before_in c.args.sizes (mapping_at c.args.self.now) c.args.first in
      elim c.if-length-gt0.branch [
        | then-length-gt0 w ↦ w.crossing-is ∙ w.begins_before-crossing.ensures
            ∙ ap (λ b. b && behind) (sym (lt_yes c.args.length w.if-length-gt0.true))
        | else-length-gt0 w ↦ let none = lt_no c.args.length w.if-length-gt0.false in w.crossing-is ∙ none
            ∙ ap (λ b. b && behind) (sym none)
      ]

  one_more : c.from.result ≡ weight (nat_lt 0 c.args.length && begins_before_in c.args.sizes (mapping_at c.args.self.now) c.args.first)
  one_more = as_number _ crosses

pub overflow_add-result : goal.overflow_add-result
overflow_add-result c =
    omega (
      arith,
      c.tiles_begun.ensures,
      count_pages_most (λ page. in_range c.args.first c.args.length page && begins_large_in c.args.sizes (mapping_at c.args.self.now) page),
      one_more c,
      one_most (nat_lt 0 c.args.length && begins_before_in c.args.sizes (mapping_at c.args.self.now) c.args.first),
    )

pub returns : goal.returns
returns c = omega (
  arith,
  c.tiles_begun.ensures,
  one_more c,
  tiles_meeting c.args.sizes
      (mapping_at c.args.self.now) c.args.first c.args.length c.requires,
)
