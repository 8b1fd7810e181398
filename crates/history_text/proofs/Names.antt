-- The words of what happened begin with the name of its kind, and where no numbers of that kind have the words behind it nothing has them.
use Rattle.std.proofs.Common.{◌≡◌, ℕ, false, cond, List, [], ◌∷◌, Option, Some, None, IfNone, codes, refl, sym, ap, subst, ◌∙◌}
use Rattle.std.specs.Str.{bytes_eq}
use Rattle.std.proofs.lemmas.Bool.{false≢true}
use Rattle.std.proofs.lemmas.Option.{none-some, same_Some}
use Rattle.std.proofs.lemmas.Slice.Eq.{bytes_eq-Decides}
use Rattle.pager_model.specs.declared.entry.What.{What}
use Rattle.pager_model.specs.declared.entry.What.TheVariants as whats
use Rattle.pager_model.specs.Scripts.{Script}
use Rattle.pager_model.specs.PrintedText.{what_words}
use Rattle.history_text.specs.declared.name.Name.{Name}
use Rattle.history_text.specs.declared.name.Name.TheVariants.{Answer, Out, Failed, Take, Give, Clear, Claim, UseHeld, Drop, Got, Unclaim, Refused, Pin, Kept, Rest}
use Rattle.history_text.specs.HistoryText.{FitsWhat}
use Rattle.history_text.specs.Lines.{NoneHas, name_of_what, word_of_name}

-- the name that a word is, read back
abbrev name_back : List ℕ → Option Name
name_back word =
    cond (bytes_eq word (codes "answer")) (Some Answer) (cond (bytes_eq word (codes "out")) (Some Out)
    (cond (bytes_eq word (codes "failed")) (Some Failed) (cond (bytes_eq word (codes "take")) (Some Take)
    (cond (bytes_eq word (codes "give")) (Some Give) (cond (bytes_eq word (codes "clear")) (Some Clear)
    (cond (bytes_eq word (codes "claim")) (Some Claim) (cond (bytes_eq word (codes "use")) (Some UseHeld)
    (cond (bytes_eq word (codes "drop")) (Some Drop) (cond (bytes_eq word (codes "got")) (Some Got)
    (cond (bytes_eq word (codes "unclaim")) (Some Unclaim) (cond (bytes_eq word (codes "refused")) (Some Refused)
    (cond (bytes_eq word (codes "pin")) (Some Pin) (cond (bytes_eq word (codes "kept")) (Some Kept)
    (cond (bytes_eq word (codes "rest")) (Some Rest) None))))))))))))))

name_again : (name : Name) → name_back (word_of_name name) ≡ Some name
name_again Answer = refl
name_again Out = refl
name_again Failed = refl
name_again Take = refl
name_again Give = refl
name_again Clear = refl
name_again Claim = refl
name_again UseHeld = refl
name_again Drop = refl
name_again Got = refl
name_again Unclaim = refl
name_again Refused = refl
name_again Pin = refl
name_again Kept = refl
name_again Rest = refl

-- no two names are one word
pub one_name : (a b : Name) → word_of_name a ≡ word_of_name b → a ≡ b
one_name a b same = same_Some a b (sym (name_again a) ∙ ap name_back same ∙ name_again b)

-- the first word of some, and the others
abbrev pub first : List (List ℕ) → List ℕ
first [] = []
first (word ∷ words) = word

abbrev pub others : List (List ℕ) → List (List ℕ)
others [] = []
others (word ∷ words) = words

pub begins : (what : What) → first (what_words what) ≡ word_of_name (name_of_what what)
begins (whats.Answer number call answered) = refl
begins (whats.Out page written) = refl
begins (whats.Failed page writing count) = refl
begins (whats.Take page frame want) = refl
begins (whats.Give page frame) = refl
begins (whats.Clear a len) = refl
begins (whats.Claim victim page frame need) = refl
begins (whats.UseHeld page frame want) = refl
begins (whats.DropHeld frame) = refl
begins (whats.Got frame) = refl
begins (whats.Unclaim frame) = refl
begins (whats.Refused wired claimed held) = refl
begins (whats.Pin a len wired) = refl
begins (whats.Kept a len page frame) = refl
begins (whats.Rest short) = refl

-- nothing of this kind that fits has the words
refutes : (script : Script) (c : ℕ) (words : List (List ℕ)) (what : What) → NoneHas script c words (name_of_what what) → FitsWhat script c what
    → words ≡ others (what_words what) → ⊥
refutes script c words (whats.Answer number call answered) none fits is =
    none number answered fits.1 fits.2 (λ absent. none-some call (sym absent ∙ fits.0)) is
refutes script c words (whats.Out page written) none fits is = none page written fits is
refutes script c words (whats.Failed page writing count) none fits is = none page writing count fits.0 fits.1 is
refutes script c words (whats.Take page frame want) none fits is = none page frame want fits.0 fits.1 fits.2 is
refutes script c words (whats.Give page frame) none fits is = none page frame fits.0 fits.1 is
refutes script c words (whats.Clear a len) none fits is = none a len fits.0 fits.1 is
refutes script c words (whats.Claim victim page frame need) none fits is = none victim page frame need fits.0 fits.1 fits.2 fits.3 is
refutes script c words (whats.UseHeld page frame want) none fits is = none page frame want fits.0 fits.1 fits.2 is
refutes script c words (whats.DropHeld frame) none fits is = none frame fits is
refutes script c words (whats.Got frame) none fits is = none frame fits is
refutes script c words (whats.Unclaim frame) none fits is = none frame fits is
refutes script c words (whats.Refused wired claimed held) none fits is = none wired claimed held fits.0 fits.1 fits.2 is
refutes script c words (whats.Pin a len wired) none fits is = none a len wired fits.0 fits.1 is
refutes script c words (whats.Kept a len page frame) none fits is = none a len page frame fits.0 fits.1 fits.2 fits.3 is
refutes script c words (whats.Rest short) none fits is = none short is

pub none_says : (script : Script) (c : ℕ) (words : List (List ℕ)) (name : Name) → NoneHas script c words name → (what : What) → FitsWhat script c what
    → word_of_name name ∷ words ≡ what_words what → ⊥
none_says script c words name none what fits is =
    let same : name ≡ name_of_what what = one_name name (name_of_what what) (ap first is ∙ begins what) in
    refutes script c words what (subst (NoneHas script c words) same none) fits (ap others is)

-- a word that is no name begins nothing
pub unnamed_says : (word : List ℕ) (words : List (List ℕ)) → ((name : Name) → bytes_eq word (word_of_name name) ≡ false) → (what : What)
    → word ∷ words ≡ what_words what → ⊥
unnamed_says word words unnamed what is =
    let named : word ≡ word_of_name (name_of_what what) = ap first is ∙ begins what in
    false≢true (sym (unnamed (name_of_what what)) ∙ (bytes_eq-Decides word (word_of_name (name_of_what what))).1 named)

-- a kind's clause, where the name is that kind's
pub none_of : (o : Option What) (script : Script) (c : ℕ) (words : List (List ℕ)) (name kind : Name) → name ≡ kind
    → IfNone o ((p : Script) (k : ℕ) → NoneHas p k words kind) → IfNone o (NoneHas script c words name)
none_of None script c words name kind is none = subst (NoneHas script c words) (sym is) (none script c)
none_of (Some what) script c words name kind is none = none
