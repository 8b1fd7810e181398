-- the pages of each part are among those of the bytes
use Rattle.std.proofs.Common.{◌*◌, ◌/◌, ◌<◌, ◌≤◌, ◌⊎◌, inl, inr, arith}
use Rattle.lackey_regions.specs.Refusals.{Maps}
use Rattle.lackey_regions.proofs.Causes.{err_of_more, passed_on}
use Rattle.lackey_regions.proofs.memory.Memory.change_bytes.Goals as goal

pub returns-then-first_whole-end_whole-clause-refused : goal.returns-then-first_whole-end_whole-clause-refused
returns-then-first_whole-end_whole-clause-refused c =
    err_of_more (λ page. Maps c.args.part × (c.args.first / 8192 ≤ page) × (page < c.div_ceil-end_page.result))
    (λ page. (Maps c.args.whole ⊎ Maps c.args.part) × (c.args.first / 8192 ≤ page) × (page * 8192 < c.args.end)) _ _ c.change_pages.result
    (λ page has. (inr has.0, omega (arith, has, c.div_ceil-first_whole.ensures, c.div_ceil-end_page.ensures), omega (arith, has, c.div_ceil-first_whole.ensures, c.div_ceil-end_page.ensures))) c.change_pages.ensures.refused

pub returns-in_err-change_pages-clause-refused : goal.returns-in_err-change_pages-clause-refused
returns-in_err-change_pages-clause-refused c =
    passed_on (λ page. Maps c.args.part × (c.args.first / 8192 ≤ page) × (page < c.div_ceil-first_whole.result))
    (λ page. (Maps c.args.whole ⊎ Maps c.args.part) × (c.args.first / 8192 ≤ page) × (page * 8192 < c.args.end)) _ _ c.from_residual.result c.in_err-change_pages.field-0.0
    (λ page has. (inr has.0, omega (arith, has, c.div_ceil-first_whole.ensures, c.div_ceil-end_page.ensures), omega (arith, has, c.div_ceil-first_whole.ensures, c.div_ceil-end_page.ensures))) c.from_residual.ensures.1 c.in_err-change_pages.ensures.refused

pub returns-in_err-change_pages-2-clause-refused : goal.returns-in_err-change_pages-2-clause-refused
returns-in_err-change_pages-2-clause-refused c =
    passed_on (λ page. Maps c.args.whole × (c.div_ceil-first_whole.result ≤ page) × (page < c.args.end / 8192))
    (λ page. (Maps c.args.whole ⊎ Maps c.args.part) × (c.args.first / 8192 ≤ page) × (page * 8192 < c.args.end)) _ _ c.from_residual-in_err-change_pages-2.result c.in_err-change_pages-2.field-0.0
    (λ page has. (inl has.0, omega (arith, has, c.div_ceil-first_whole.ensures, c.div_ceil-end_page.ensures), omega (arith, has, c.div_ceil-first_whole.ensures, c.div_ceil-end_page.ensures))) c.from_residual-in_err-change_pages-2.ensures.1 c.in_err-change_pages-2.ensures.refused

pub returns-clause-refused : goal.returns-clause-refused
returns-clause-refused c =
    err_of_more (λ page. Maps c.args.part × (c.args.end / 8192 ≤ page) × (page < c.div_ceil-end_page.result))
    (λ page. (Maps c.args.whole ⊎ Maps c.args.part) × (c.args.first / 8192 ≤ page) × (page * 8192 < c.args.end)) _ _ c.change_pages-4.result
    (λ page has. (inr has.0, omega (arith, has, c.div_ceil-first_whole.ensures, c.div_ceil-end_page.ensures), omega (arith, has, c.div_ceil-first_whole.ensures, c.div_ceil-end_page.ensures))) c.change_pages-4.ensures.refused
