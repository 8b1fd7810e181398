use Rattle.std.proofs.Common.{ℕ, ◌≡◌, ◌==◌, if◌then◌else◌, [], ◌∷◌, ◌++◌, codes, decimal, ap, ◌∙◌}
use Rattle.pager_model.specs.Scripts.{Script}
use Rattle.pager_model.specs.SizeSets.{SizeSet}
use Rattle.pager_model.specs.TraceText.{first_line, first_words, line_of_words, sizes_word}
use Rattle.report_text.proofs.Lines.{line-gained, adds-more}
use Rattle.trace_make.proofs.written.line_of_first.Goals as goal

-- the first line of a trace by what it says
same : (script : Script) (version frames processors spaces : ℕ) (z : SizeSet) → version ≡ script.version → frames ≡ script.frames
    → processors ≡ script.processors → spaces ≡ script.spaces → z ≡ script.sizes
    → line_of_words (first_words version frames processors spaces z) ≡ first_line script
same script version frames processors spaces z v f p s e =
    rw (v, f, p)
    (ap (λ (n : ℕ). line_of_words (first_words script.version script.frames script.processors n z)) s
    ∙ ap (λ (y : SizeSet). line_of_words (first_words script.version script.frames script.processors script.spaces y)) e)

pub returns : goal.returns
returns c =
    let told = decimal c.version-version.result ∷ decimal c.frames.result ∷ decimal c.processors.result ∷ decimal c.spaces.result ∷ [] in
    let more = if c.version-version.result == 1 then [] else sizes_word c.sizes.result ∷ [] in
    let line = line-gained _ _ _ _ (codes "trace") (told ++ more) c.put_name.ensures
    (adds-more _ _ _ told more c.add_counts.ensures.text c.add_sizes.ensures.text) c.end.ensures in
    line ∙ ap (λ l. l ++ line_of_words (codes "trace" ∷ (told ++ more))) c.new-text.ensures
    ∙ same c.args.trace.now _ _ _ _ _ c.version-version.ensures.version c.frames.ensures.frames c.processors.ensures.processors c.spaces.ensures.spaces c.sizes.ensures.sizes
