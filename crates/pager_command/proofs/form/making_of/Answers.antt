use Rattle.std.proofs.Common.{◌≡◌, true, false, rules, [], sym, subst, ◌∙◌, arith}
use Rattle.pager_command.specs.declared.form.Making.{Making}
use Rattle.pager_command.specs.Forms.{are_of, making_words}
use Rattle.pager_command.proofs.OneCommand.{below_32_bits, same_making}
use Rattle.pager_command.proofs.Words.{making_of_six, word_at}
use Rattle.trace_make.specs.Made.{CanMake}
use Rattle.pager_command.proofs.form.making_of.Goals as goal

pub returns-in_err-number_of-in-len6-clause-none : goal.returns-in_err-number_of-in-len6-clause-none
returns-in_err-number_of-in-len6-clause-none c =
    rw c.from_residual.ensures
    (λ m.
    c.in_err-number_of-in-len6.ensures.none m.0.number m.1.number
    (word_at c.args.words.now (record { ref_ptr = (0, 0); now = [] }) (making_words m.0) 1 (omega (arith, c.in-len6.len_at_least)) m.1.are))

pub returns-in_err-small_number_of-in-len6-clause-none : goal.returns-in_err-small_number_of-in-len6-clause-none
returns-in_err-small_number_of-in-len6-clause-none c =
    rw c.from_residual-in_err-small_number_of-in-len6.ensures
    (λ m.
    let made = m.0 in
    let below = below_32_bits made.calls made.processors made.spaces made.frames m.1.can in
    c.in_err-small_number_of-in-len6.ensures.none m.0.calls below.0
    (word_at c.args.words.now (record { ref_ptr = (0, 0); now = [] }) (making_words m.0) 2 (omega (arith, c.in-len6.len_at_least)) m.1.are))

pub returns-in_err-small_number_of-in-len6-2-clause-none : goal.returns-in_err-small_number_of-in-len6-2-clause-none
returns-in_err-small_number_of-in-len6-2-clause-none c =
    rw c.from_residual-in_err-small_number_of-in-len6-2.ensures
    (λ m.
    let made = m.0 in
    let below = below_32_bits made.calls made.processors made.spaces made.frames m.1.can in
    c.in_err-small_number_of-in-len6-2.ensures.none m.0.processors below.1
    (word_at c.args.words.now (record { ref_ptr = (0, 0); now = [] }) (making_words m.0) 3 (omega (arith, c.in-len6.len_at_least)) m.1.are))

pub returns-in_err-small_number_of-in-len6-3-clause-none : goal.returns-in_err-small_number_of-in-len6-3-clause-none
returns-in_err-small_number_of-in-len6-3-clause-none c =
    rw c.from_residual-in_err-small_number_of-in-len6-3.ensures
    (λ m.
    let made = m.0 in
    let below = below_32_bits made.calls made.processors made.spaces made.frames m.1.can in
    c.in_err-small_number_of-in-len6-3.ensures.none m.0.spaces below.2
    (word_at c.args.words.now (record { ref_ptr = (0, 0); now = [] }) (making_words m.0) 4 (omega (arith, c.in-len6.len_at_least)) m.1.are))

pub returns-in_err-small_number_of-in-len6-4-clause-none : goal.returns-in_err-small_number_of-in-len6-4-clause-none
returns-in_err-small_number_of-in-len6-4-clause-none c =
    rw c.from_residual-in_err-small_number_of-in-len6-4.ensures
    (λ m.
    let made = m.0 in
    let below = below_32_bits made.calls made.processors made.spaces made.frames m.1.can in
    c.in_err-small_number_of-in-len6-4.ensures.none m.0.frames below.3
    (word_at c.args.words.now (record { ref_ptr = (0, 0); now = [] }) (making_words m.0) 5 (omega (arith, c.in-len6.len_at_least)) m.1.are))

pub returns-then-not-is_possible-clause-none : goal.returns-then-not-is_possible-clause-none
returns-then-not-is_possible-clause-none c = λ m.
    let x : Making = record {
      number = c.in_ok-number_of-in-len6.field-0;
      calls = c.in_ok-small_number_of-in-len6.field-0;
      processors = c.in_ok-small_number_of-in-len6-2.field-0;
      spaces = c.in_ok-small_number_of-in-len6-3.field-0;
      frames = c.in_ok-small_number_of-in-len6-4.field-0;
    } in
    let are : are_of c.args.words.now ≡ making_words x =
    making_of_six c.args.words.now (record { ref_ptr = (0, 0); now = [] }) x c.eq.result
    c.in-len6.len_at_least c.in-len6.len_below c.eq.ensures c.if-eq.true c.in_ok-number_of-in-len6.ensures.some
    c.in_ok-small_number_of-in-len6.ensures.some c.in_ok-small_number_of-in-len6-2.ensures.some
    c.in_ok-small_number_of-in-len6-3.ensures.some c.in_ok-small_number_of-in-len6-4.ensures.some in
    let same : x ≡ m.0 =
    same_making x m.0 (omega arith) m.1.number (omega arith) (omega arith) (omega arith) (omega arith) m.1.can (sym are ∙ m.1.are) in
    let can : CanMake x.calls x.processors x.spaces x.frames =
    subst (λ (k : Making). CanMake k.calls k.processors k.spaces k.frames) (sym same) m.1.can in
    let yes : c.is_possible.result ≡ true = c.is_possible.ensures.1 can in
    let no : c.is_possible.result ≡ false = search rules in
    let e : true ≡ false = sym yes ∙ no in
    cc

pub returns-else-not-is_possible-clause-some : goal.returns-else-not-is_possible-clause-some
returns-else-not-is_possible-clause-some c =
    let x : Making = record {
      number = c.in_ok-number_of-in-len6.field-0;
      calls = c.in_ok-small_number_of-in-len6.field-0;
      processors = c.in_ok-small_number_of-in-len6-2.field-0;
      spaces = c.in_ok-small_number_of-in-len6-3.field-0;
      frames = c.in_ok-small_number_of-in-len6-4.field-0;
    } in
    let yes : c.is_possible.result ≡ true = search rules in
    record {
      are = making_of_six c.args.words.now (record { ref_ptr = (0, 0); now = [] }) x c.eq.result
          c.in-len6.len_at_least c.in-len6.len_below c.eq.ensures c.if-eq.true c.in_ok-number_of-in-len6.ensures.some
          c.in_ok-small_number_of-in-len6.ensures.some c.in_ok-small_number_of-in-len6-2.ensures.some
          c.in_ok-small_number_of-in-len6-3.ensures.some c.in_ok-small_number_of-in-len6-4.ensures.some;
      number = omega arith;
      can = c.is_possible.ensures.0 yes;
    }

pub returns-in_err-number_of-in-len6-clause-some : goal.returns-in_err-number_of-in-len6-clause-some
returns-in_err-number_of-in-len6-clause-some c = rw c.from_residual.ensures tt

pub returns-in_err-small_number_of-in-len6-clause-some : goal.returns-in_err-small_number_of-in-len6-clause-some
returns-in_err-small_number_of-in-len6-clause-some c = rw c.from_residual-in_err-small_number_of-in-len6.ensures tt

pub returns-in_err-small_number_of-in-len6-2-clause-some : goal.returns-in_err-small_number_of-in-len6-2-clause-some
returns-in_err-small_number_of-in-len6-2-clause-some c = rw c.from_residual-in_err-small_number_of-in-len6-2.ensures tt

pub returns-in_err-small_number_of-in-len6-3-clause-some : goal.returns-in_err-small_number_of-in-len6-3-clause-some
returns-in_err-small_number_of-in-len6-3-clause-some c = rw c.from_residual-in_err-small_number_of-in-len6-3.ensures tt

pub returns-in_err-small_number_of-in-len6-4-clause-some : goal.returns-in_err-small_number_of-in-len6-4-clause-some
returns-in_err-small_number_of-in-len6-4-clause-some c = rw c.from_residual-in_err-small_number_of-in-len6-4.ensures tt
