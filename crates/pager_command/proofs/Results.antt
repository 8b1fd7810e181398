-- What holds by a result of one variant.
use Rattle.std.proofs.Common.{Result, Ok, Err}
use Rattle.std.specs.Result.{IsOk, IsErr, OnOk, OnErr}
use Rattle.std.proofs.lemmas.Bool.{false≢true}

pub of_ok : {T E : Type 0} {P : Type 0} (r : Result T E) → IsOk r → OnOk r P → P
of_ok (Ok value) is holds = holds
of_ok (Err e) is holds = absurd (false≢true is)

pub of_err : {T E : Type 0} {P : Type 0} (r : Result T E) → IsErr r → OnErr r P → P
of_err (Ok value) is holds = absurd (false≢true is)
of_err (Err e) is holds = holds
