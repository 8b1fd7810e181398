use Rattle.std.proofs.Common.{◌≡◌, ℕ, ◌-◌, ◌≤◌, List, [], ◌∷◌, length, take, drop, get_or, Bool, IsTrue, codes, decimal, refl, ap, sym, ◌∙◌, arith}
use Rattle.std.specs.Borrow.{Bor}
use Rattle.std.specs.Str.{bytes_eq}
use Rattle.std.specs.Cmp.Lexicographic.{bytes_decides}
use Rattle.std.proofs.lemmas.List.{take_all}
use Rattle.pager_command.specs.Forms.{are_of}
use Rattle.superpager.specs.declared.backing.Backing.{Backing}
use Rattle.superpager.specs.declared.backing.Backing.TheVariants.{Memory, Folder, Slots}
use Rattle.superpager.proofs.backing.stores_of.Goals as goal

-- the text of a folder
abbrev folder_text : Backing → List ℕ
folder_text Memory = []
folder_text (Folder folder) = folder.now
folder_text (Slots slots) = []

-- words that begin with these two
two_words : (words : List (Bor (List ℕ))) (d e : Bor (List ℕ)) (first second : List ℕ) (b : Bool) (rest : List (List ℕ))
    → 2 ≤ length words → b ≡ bytes_eq (get_or words 0 d).now first → IsTrue b → (get_or words 1 e).now ≡ second
    → are_of (take (length words - 2) (drop 2 words)) ≡ rest → are_of words ≡ first ∷ second ∷ rest
two_words [] d e first second b rest some is holds same then = absurd (omega arith)
two_words (w ∷ []) d e first second b rest some is holds same then = absurd (omega arith)
two_words (w ∷ x ∷ ws) d e first second b rest some is holds same then =
    let all : take (length (w ∷ x ∷ ws) - 2) ws ≡ ws = take_all (length (w ∷ x ∷ ws) - 2) ws (omega arith) in
    ap (λ (l : List ℕ). l ∷ x.now ∷ are_of ws) ((bytes_decides w.now first).0 (sym is ∙ holds))
    ∙ ap (λ (l : List ℕ). first ∷ l ∷ are_of ws) same
    ∙ ap (λ (ls : List (List ℕ)). first ∷ second ∷ ls) (ap are_of (sym all) ∙ then)

pub returns-in-len2-up-clause-folder : goal.returns-in-len2-up-clause-folder
returns-in-len2-up-clause-folder c folder is =
    let none : Bor (List ℕ) = record { ref_ptr = (0, 0); now = [] } in
    two_words c.args.words.now none none (codes "--folder") folder.now c.eq.result _ c.in-len2-up.len_at_least c.eq.ensures c.if-eq.true (ap folder_text is) refl

pub returns-in-Some-clause-slots : goal.returns-in-Some-clause-slots
returns-in-Some-clause-slots c slots is =
    let none : Bor (List ℕ) = record { ref_ptr = (0, 0); now = [] } in
    let found = c.in-Some.ensures.some in
    let same : c.in-Some.slots ≡ slots = (let e : Slots c.in-Some.slots ≡ Slots slots = is in cc) in
    record {
      are = two_words c.args.words.now none none (codes "--swap") (decimal slots) c.eq-2.result _ c.in-len2-up.len_at_least c.eq-2.ensures c.if-eq-2.true (found.0 ∙ ap decimal same) refl;
      some = rw (← same) found.1;
      few = rw (← same) found.2;
    }
