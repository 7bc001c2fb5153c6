-- Rows of a flash from which on all bytes are ff.
use Rattle.std.proofs.Common.{◌≡◌, ◌≤◌, ◌+◌, ◌-◌, ◌*◌, ◌/◌, ℕ, zero, suc, List, [], ◌++◌, refl, ap, ◌∙◌, arith, append-nil}
use Rattle.soc_words.specs.Text.{joined_below}
use Rattle.soc_words.proofs.Texts.{joined_below-more}
use Rattle.spi_flash.specs.Flash.{byte_of, flash_size}
use Rattle.bench_report.specs.Report.{flash_row_in, flash_row_text, flash_rows}

-- rows without a text add nothing
silent_more : (text : ℕ → List ℕ) (n more : ℕ) → ((k : ℕ) → n ≤ k → text k ≡ []) → joined_below text (n + more) ≡ joined_below text n
silent_more text n zero none = ap (joined_below text) (omega arith)
silent_more text n (suc more) none =
    let next : n + suc more ≡ n + more + 1 = omega arith in
    ap (joined_below text) next ∙ joined_below-more text (n + more) ∙ ap (λ t. joined_below text (n + more) ++ t) (none (n + more) (omega arith))
    ∙ append-nil (joined_below text (n + more)) ∙ silent_more text n more none

-- a row of ff has no text
erased_row : (cells : List ℕ) (number : ℕ) → ((k : ℕ) → byte_of cells (16 * number + k) ≡ 255) → flash_row_in cells number ≡ []
unfolding flash_row_text
erased_row cells number e = rw (e 0, e 1, e 2, e 3, e 4, e 5, e 6, e 7, e 8, e 9, e 10, e 11, e 12, e 13, e 14, e 15) refl

-- the rows before the end of what was programmed are all that have a text
pub rows_below : (cells : List ℕ) (end rows : ℕ) → ((i : ℕ) → end ≤ i → byte_of cells i ≡ 255) → end ≤ 16 * rows → rows ≤ flash_size / 16
    → joined_below (flash_row_in cells) flash_rows ≡ joined_below (flash_row_in cells) rows
unfolding flash_rows
rows_below cells end rows none above below =
    let whole : flash_size / 16 ≡ rows + (flash_size / 16 - rows) = omega (arith, below) in
    ap (joined_below (flash_row_in cells)) whole
    ∙ silent_more (flash_row_in cells) rows (flash_size / 16 - rows) (λ k from. erased_row cells k (λ j. none (16 * k + j) (omega (arith, from, above))))
