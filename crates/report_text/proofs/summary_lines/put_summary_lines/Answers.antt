use Rattle.std.proofs.Common.{[], ◌∷◌, ◌++◌, codes, ap, ◌∙◌}
use Rattle.pager_model.specs.PrintedText.{count_line}
use Rattle.report_text.proofs.Lines.{gains-more}
use Rattle.report_text.proofs.summary_lines.put_summary_lines.Goals as goal

pub returns : goal.returns
returns c =
    let s = c.args.summary.now in
    let start = c.args.text.now.items in
    let tiles = count_line (codes "tiles") s.tiles in
    let promotions = count_line (codes "promotions") (s.promotions ∷ []) in
    let demotions = count_line (codes "demotions") (s.demotions ∷ []) in
    let preemptions = count_line (codes "preemptions") (s.preemptions ∷ []) in
    let images = count_line (codes "images") (s.hits ∷ s.misses ∷ []) in
    let frames = count_line (codes "frames") (s.free ∷ s.reserved ∷ s.used ∷ []) in
    let one = c.put_counts.ensures.text ∙ ap (λ l. start ++ count_line (codes "tiles") l) c.tile_counts.ensures in
    let six = c.put_counts-6.ensures.text
    ∙ ap (λ l. c.put_counts-5.new.text.items ++ count_line (codes "frames") l) c.frame_counts.ensures in
    let two = gains-more _ _ _ tiles promotions one c.put_counts-2.ensures.text in
    let three = gains-more _ _ _ (tiles ++ promotions) demotions two c.put_counts-3.ensures.text in
    let four = gains-more _ _ _ ((tiles ++ promotions) ++ demotions) preemptions three c.put_counts-4.ensures.text in
    let five = gains-more _ _ _ (((tiles ++ promotions) ++ demotions) ++ preemptions) images four c.put_counts-5.ensures.text in
    let to_frames = gains-more _ _ _ ((((tiles ++ promotions) ++ demotions) ++ preemptions) ++ images) frames five six in
    gains-more _ _ _ (((((tiles ++ promotions) ++ demotions) ++ preemptions) ++ images) ++ frames) (count_line (codes "end") []) to_frames
    c.put_counts-7.ensures.text
