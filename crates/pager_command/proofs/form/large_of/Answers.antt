use Rattle.std.proofs.Common.{rules, codes, decimal, [], arith}
use Rattle.pager_command.specs.Forms.{large_words}
use Rattle.pager_command.proofs.Words.{three_words, word_at}
use Rattle.pager_command.proofs.form.large_of.Goals as goal

pub returns-in_ok-number_of-in-len3-2-clause-some : goal.returns-in_ok-number_of-in-len3-2-clause-some
returns-in_ok-number_of-in-len3-2-clause-some c =
    record {
      are = three_words c.args.words.now (record { ref_ptr = (0, 0); now = [] }) (codes "large")
          (decimal c.in_ok-number_of-in-len3.field-0)
          (decimal c.in_ok-number_of-in-len3-2.field-0) c.eq.result c.in-len3.len_at_least c.in-len3.len_below c.eq.ensures c.if-eq.true
          c.in_ok-number_of-in-len3.ensures.some c.in_ok-number_of-in-len3-2.ensures.some;
      number_in = search rules;
      seed_in = search rules;
    }

pub returns-in_err-number_of-in-len3-clause-none : goal.returns-in_err-number_of-in-len3-clause-none
returns-in_err-number_of-in-len3-clause-none c =
    rw c.from_residual.ensures
    (λ large. c.in_err-number_of-in-len3.ensures.none large.0 large.2.number_in
    (word_at c.args.words.now (record { ref_ptr = (0, 0); now = [] }) (large_words large.0 large.1) 1
    (omega (arith, c.in-len3.len_at_least)) large.2.are))

pub returns-in_err-number_of-in-len3-2-clause-none : goal.returns-in_err-number_of-in-len3-2-clause-none
returns-in_err-number_of-in-len3-2-clause-none c =
    rw c.from_residual-in_err-number_of-in-len3-2.ensures
    (λ large. c.in_err-number_of-in-len3-2.ensures.none large.1 large.2.seed_in
    (word_at c.args.words.now (record { ref_ptr = (0, 0); now = [] }) (large_words large.0 large.1) 2
    (omega (arith, c.in-len3.len_at_least)) large.2.are))

pub returns-in_err-number_of-in-len3-clause-some : goal.returns-in_err-number_of-in-len3-clause-some
returns-in_err-number_of-in-len3-clause-some c = rw c.from_residual.ensures tt

pub returns-in_err-number_of-in-len3-2-clause-some : goal.returns-in_err-number_of-in-len3-2-clause-some
returns-in_err-number_of-in-len3-2-clause-some c = rw c.from_residual-in_err-number_of-in-len3-2.ensures tt
