-- The actors of a trace: the processors that make its calls, and its daemon, which is one more. How many there are, and the mark of each.
use Rattle.std.proofs.Common.{◌≡◌, ℕ, zero, suc, ◌+◌, ◌<◌, ◌≤◌, [], ◌∷◌, ◌++◌, length, length-append, replicate, get_or, Option, Some, None, refl, sym, ap, subst, ◌∙◌, arith}
use Rattle.std.proofs.lemmas.List.{get_or-replicate, get_or_append_left, length-replicate}
use Rattle.pager_model.specs.declared.trace.Daemon.{Daemon}
use Rattle.pager_model.specs.Scripts.{Script}
use Rattle.pager_model.specs.Showing.{actors, daemon_marks, marks_of}
use Rattle.pager_model.specs.TraceText.{HasText}

actors_are : (script : Script) → actors script ≡ script.processors + length (daemon_marks script.daemon)
actors_are script =
    length-append (replicate {A = ℕ} script.processors 0) (daemon_marks script.daemon)
    ∙ ap (λ n. n + length (daemon_marks script.daemon)) (length-replicate {A = ℕ} script.processors 0)

-- there is one daemon at most
pub actors_most : (script : Script) → actors script ≤ script.processors + 1
actors_most script = (let all = actors_are script in let daemon = one_at_most script.daemon in omega (arith, all, daemon))
  where
    one_at_most : (o : Option Daemon) → length (daemon_marks o) ≤ 1
    one_at_most None = omega arith
    one_at_most (Some d) = omega arith

pub actors_few : (script : Script) → HasText script → actors script ≤ 17
actors_few script has = (let most = actors_most script in omega (arith, most, has.processors_in.1))

-- without one they are the processors alone
pub actors_alone : (script : Script) → script.daemon ≡ None → actors script ≡ script.processors
actors_alone script is =
    let all = actors_are script in
    let none : length (daemon_marks script.daemon) ≡ 0 = ap (λ o. length (daemon_marks o)) is in
    omega (arith, all, none)

pub processor_known : (script : Script) (c : ℕ) → c < script.processors → c < actors script
processor_known script c known = (let all = actors_are script in omega (arith, all, known))

pub daemon_known : (script : Script) (d : Daemon) → script.daemon ≡ Some d → script.processors < actors script
daemon_known script d is =
    let all = actors_are script in
    let one : length (daemon_marks script.daemon) ≡ 1 = ap (λ o. length (daemon_marks o)) is in
    omega (arith, all, one)

pub mark_of_caller : (script : Script) (c : ℕ) → c < script.processors → get_or (marks_of script) c 0 ≡ 0
mark_of_caller script c known =
    get_or_append_left (replicate script.processors 0) (daemon_marks script.daemon) 0 c
    (subst (λ n. c < n) (sym (length-replicate {A = ℕ} script.processors 0)) known)
    ∙ get_or-replicate script.processors c 0 0 known

pub mark_of_daemon : (script : Script) (d : Daemon) → script.daemon ≡ Some d → get_or (marks_of script) script.processors 0 ≡ d.low
mark_of_daemon script d is =
    ap (λ o. get_or (replicate script.processors 0 ++ daemon_marks o) script.processors 0) is ∙ behind script.processors
  where
    behind : (n : ℕ) → get_or (replicate n 0 ++ d.low ∷ []) n 0 ≡ d.low
    behind zero = refl
    behind (suc n) = behind n
