-- What comes before an entry of a legal history is a legal history, which the entry may follow.
use Rattle.std.proofs.Common.{List, [], ◌∷◌, ◌++◌, sym, subst, append_assoc}
use Rattle.std.proofs.lemmas.List.{append-nil}
use Rattle.pager_model.specs.declared.entry.Entry.{Entry}
use Rattle.pager_model.specs.Legal.{MayFollow, AllFollow, IsLegal}
use Rattle.pager_model.specs.Settings.{Given}

AllFollow-at : (g : Given) (first before after : List Entry) (e : Entry) → AllFollow g first (before ++ e ∷ after)
    → AllFollow g first before × MayFollow g (first ++ before) e
AllFollow-at g first [] after e all = (tt, subst (λ l. MayFollow g l e) (sym (append-nil first)) all.0)
AllFollow-at g first (x ∷ before) after e all =
    let rest = AllFollow-at g (first ++ x ∷ []) before after e all.1 in
    ((all.0, rest.0), subst (λ l. MayFollow g l e) (append_assoc first (x ∷ []) before) rest.1)

pub IsLegal-at : (g : Given) (before after : List Entry) (e : Entry) → IsLegal g (before ++ e ∷ after)
    → IsLegal g before × MayFollow g before e
IsLegal-at g before after e legal = AllFollow-at g [] before after e legal
