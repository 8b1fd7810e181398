use Rattle.std.proofs.Common.{◌≤◌, [], refl, ap, inl, inr, arith}
use Rattle.std.proofs.lemmas.Bool.{false≢true}
use Rattle.std.proofs.lemmas.List.Elements.{All-head}
use Rattle.std.specs.Fmt.{digits}
use Rattle.pager_model.specs.declared.call.Call.TheVariants.{Wire}
use Rattle.pager_model.specs.SizeSets.{SizeSet}
use Rattle.pager_model.specs.TraceText.{IsLine}
use Rattle.pager_model.proofs.laws.small_texts.Goals as goal

pub returns-clause-trace : goal.returns-clause-trace
unfolding digits
returns-clause-trace c = refl

pub returns-clause-sizes : goal.returns-clause-sizes
unfolding digits
returns-clause-sizes c = refl

pub returns-clause-all_sizes : goal.returns-clause-all_sizes
unfolding digits
returns-clause-all_sizes c = refl

pub returns-clause-version : goal.returns-clause-version
returns-clause-version c text = elim text.version_in [
  | inl one ↦ absurd (false≢true (ap (λ (z : SizeSet). z.one) one.1))
  | inr later ↦ elim later [ inl two ↦ absurd (omega (arith, two)) | inr three ↦ absurd (omega (arith, three)) ]
]

pub returns-clause-early_wire : goal.returns-clause-early_wire
returns-clause-early_wire c text =
    (let first = All-head (IsLine 2 1 1) (record { processor = 0; call = Wire 0 3 }) [] text.lines in
    let late : 3 ≤ 2 = first.2 in absurd (omega (arith, late)))

pub returns-clause-answers : goal.returns-clause-answers
unfolding digits
returns-clause-answers c = refl

pub returns-clause-grow : goal.returns-clause-grow
unfolding digits
returns-clause-grow c = refl

pub returns-clause-unmap : goal.returns-clause-unmap
unfolding digits
returns-clause-unmap c = refl

pub returns-clause-protect : goal.returns-clause-protect
unfolding digits
returns-clause-protect c = refl

pub returns-clause-load : goal.returns-clause-load
unfolding digits
returns-clause-load c = refl

pub returns-clause-copies : goal.returns-clause-copies
unfolding digits
returns-clause-copies c = refl

pub returns-clause-evict : goal.returns-clause-evict
unfolding digits
returns-clause-evict c = refl

pub returns-clause-taking : goal.returns-clause-taking
unfolding digits
returns-clause-taking c = refl

pub returns-clause-claim : goal.returns-clause-claim
unfolding digits
returns-clause-claim c = refl

pub returns-clause-rest : goal.returns-clause-rest
unfolding digits
returns-clause-rest c = refl

pub returns-clause-sizes_of_3 : goal.returns-clause-sizes_of_3
unfolding digits
returns-clause-sizes_of_3 c = refl

pub returns-clause-discard : goal.returns-clause-discard
unfolding digits
returns-clause-discard c = refl

pub returns-clause-wire : goal.returns-clause-wire
unfolding digits
returns-clause-wire c = refl

pub returns-clause-unwire : goal.returns-clause-unwire
unfolding digits
returns-clause-unwire c = refl

pub returns-clause-pin : goal.returns-clause-pin
unfolding digits
returns-clause-pin c = refl

pub returns-clause-kept : goal.returns-clause-kept
unfolding digits
returns-clause-kept c = refl

pub returns-clause-busy : goal.returns-clause-busy
unfolding digits
returns-clause-busy c = refl
