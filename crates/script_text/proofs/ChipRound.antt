-- What was printed for a chip's settings is read as these settings.
use Rattle.std.proofs.Common.{◌≡◌, ℕ, ◌<◌, ◌≤◌, ◌^◌, Bool, true, false, List, length, [], ◌∷◌, ◌++◌, Some, Ok, codes, refl, rules, sym, ap, ◌∙◌, arith}
use Rattle.std.specs.Prelude.{pos, FitsSigned, ◌==◌}
use Rattle.toml_parser.specs.Lexical.{first}
use Rattle.std.specs.List.{concat}
use Rattle.std.proofs.lemmas.List.Folds.{concat-append}
use Rattle.std.specs.Fmt.{decimal}
use Rattle.std.specs.Int.{w64}
use Rattle.toml_writer.specs.Text.{dotted_text, key_text}
use Rattle.toml.specs.Data.{integer, boolean}
use Rattle.toml.specs.Tables.{Expression, Nodes, no_nodes, node, value, open_table, header, close, key_value, std_table}
use Rattle.toml.specs.Parse.{parse_document}
use Rattle.toml.specs.Text.{IsLineText}
use Rattle.toml.proofs.OnLiterals.{toml_on_literals}
use Rattle.toml.proofs.ReadLines.{IsPrinted, run}
use Rattle.chip_base.specs.Settings.{Values, standard}
use Rattle.script_text.specs.ChipFile.{Text, chip_of, is_in, read_delays, read_keys, read_document as read_whole}
use Rattle.std.proofs.lemmas.Bool.Decides.{nat_tests}
use Rattle.std.specs.List.{list_all}
use Rattle.std.specs.Prelude.{◌%◌}
use Rattle.chip_base.specs.Ranges.{is_delay}
use Rattle.script_text.proofs.Lists.{left, right}
use Rattle.script_text.specs.ChipText.{chip_text, delay_header, first_delays, last_delays, flag_text, pair_line, plain_lines}
use Rattle.script_text.proofs.PrintedLines.{AreLines, read_document}

abbrev number : Text → ℕ → Expression
number key n = (([], key), key_value (integer (pos n)))

abbrev flag : Text → Bool → Expression
flag key b = (([], key), key_value (boolean b))

abbrev IsLine : Expression → Text → Type 0
IsLine e t = IsLineText false false e.0 e.1 t × IsPrinted e.0 e.1

fits_pos : (n : ℕ) → n < 2 ^ 63 → FitsSigned w64 (pos n)
fits_pos n h = search (rules, arith)

number_line : (key : Text) (n : ℕ) → dotted_text ([], key) ≡ key → n < 2 ^ 63 → IsLine (number key n) (pair_line key (decimal n))
unfolding pair_line
number_line key n plain fits = ((decimal n, ap (λ k. k ++ (codes " = " ++ (decimal n ++ 10 ∷ []))) (sym plain), (refl, fits_pos n fits)), (refl, omega arith, refl))

flag_line : (key : Text) (b : Bool) → dotted_text ([], key) ≡ key → IsLine (flag key b) (pair_line key (flag_text b))
unfolding pair_line
flag_line key b plain = ((flag_text b, ap (λ k. k ++ (codes " = " ++ (flag_text b ++ 10 ∷ []))) (sym plain), refl), (refl, omega arith, refl))

module _ (c i d p b u0 u1 s g w l t : ℕ) (f : Bool) where
  abbrev values : Values
  values = record { clock = c; imem = i; dmem = d; prescaler = p; baud = b; flash = f; delay = u0 ∷ u1 ∷ s ∷ g ∷ w ∷ l ∷ t ∷ [] }

  abbrev printed : List Expression
  printed = number (codes "clock") c ∷ number (codes "imem") i ∷ number (codes "dmem") d ∷ number (codes "prescaler") p
      ∷ number (codes "baud") b ∷ flag (codes "flash") f ∷ (([], codes "delay"), std_table)
      ∷ number (codes "uart0") u0 ∷ number (codes "uart1") u1 ∷ number (codes "spi") s ∷ number (codes "gpio") g
      ∷ number (codes "pwm") w ∷ number (codes "slink") l ∷ number (codes "wdt") t ∷ []

  abbrev at : Text → ℕ → Nodes → Nodes
  at key n more = node key (value (integer (pos n))) more

  abbrev delays : Nodes
  delays = at (codes "gpio") g (at (codes "pwm") w (at (codes "slink") l (at (codes "spi") s (at (codes "uart0") u0 (at (codes "uart1") u1 (at (codes "wdt") t no_nodes))))))

  abbrev root : Nodes
  root = at (codes "baud") b (at (codes "clock") c (node (codes "delay") (open_table header delays) (at (codes "dmem") d
      (node (codes "flash") (value (boolean f)) (at (codes "imem") i (at (codes "prescaler") p no_nodes))))))

  ran : run (no_nodes, []) printed ≡ Some (root, codes "delay" ∷ [])
  unfolding toml_on_literals
  ran = refl

  read : is_in 1 4294967295 1 c ≡ true → is_in 4096 1048576 4096 i ≡ true → is_in 4096 1048576 4096 d ≡ true → is_in 0 7 1 p ≡ true → is_in 0 1023 1 b ≡ true
      → is_in 1 4096 1 u0 ≡ true → is_in 1 4096 1 u1 ≡ true → is_in 1 4096 1 s ≡ true → is_in 1 4096 1 g ≡ true → is_in 1 4096 1 w ≡ true → is_in 1 4096 1 l ≡ true → is_in 1 4096 1 t ≡ true
      → read_keys (close root) standard ≡ Ok values
  unfolding read_keys read_delays
  read hc hi hd hp hb h0 h1 hs hg hw hl ht = rw (hb, hc, hg, hw, hl, hs, h0, h1, ht, hd, hi, hp) refl

  lines_ok : c < 2 ^ 63 → i < 2 ^ 63 → d < 2 ^ 63 → p < 2 ^ 63 → b < 2 ^ 63 → u0 < 2 ^ 63 → u1 < 2 ^ 63 → s < 2 ^ 63 → g < 2 ^ 63 → w < 2 ^ 63 → l < 2 ^ 63 → t < 2 ^ 63
      → AreLines printed (plain_lines values ++ (first_delays values ++ last_delays values))
  unfolding key_text delay_header
  lines_ok hc hi hd hp hb h0 h1 hs hg hw hl ht = (
    number_line (codes "clock") c refl hc,
    (
      number_line (codes "imem") i refl hi,
      (
        number_line (codes "dmem") d refl hd,
        (
          number_line (codes "prescaler") p refl hp,
          (
            number_line (codes "baud") b refl hb,
            (
              flag_line (codes "flash") f refl,
              (
                (refl, omega arith),
                (
                  number_line (codes "uart0") u0 refl h0,
                  (
                    number_line (codes "uart1") u1 refl h1,
                    (
                      number_line (codes "spi") s refl hs,
                      (
                        number_line (codes "gpio") g refl hg,
                        (number_line (codes "pwm") w refl hw, (number_line (codes "slink") l refl hl, (number_line (codes "wdt") t refl ht, tt))),
                      ),
                    ),
                  ),
                ),
              ),
            ),
          ),
        ),
      ),
    ),
  )

  in_63 : (least most step n : ℕ) → most < 2 ^ 63 → is_in least most step n ≡ true → n < 2 ^ 63
  in_63 least most step n low h = grind (arith, nat_tests)

  mark : (first (concat (plain_lines values ++ (first_delays values ++ last_delays values))) == 239) ≡ false
  unfolding pair_line
  mark = refl

  round : is_in 1 4294967295 1 c ≡ true → is_in 4096 1048576 4096 i ≡ true → is_in 4096 1048576 4096 d ≡ true → is_in 0 7 1 p ≡ true → is_in 0 1023 1 b ≡ true
      → is_in 1 4096 1 u0 ≡ true → is_in 1 4096 1 u1 ≡ true → is_in 1 4096 1 s ≡ true → is_in 1 4096 1 g ≡ true → is_in 1 4096 1 w ≡ true → is_in 1 4096 1 l ≡ true → is_in 1 4096 1 t ≡ true
      → chip_of (chip_text values) ≡ Some (Ok values)
  round hc hi hd hp hb h0 h1 hs hg hw hl ht =
      let small : (n : ℕ) → is_in 1 4096 1 n ≡ true → n < 2 ^ 63 = λ n h. in_63 1 4096 1 n (omega arith) h in
      let ok = lines_ok (in_63 _ _ _ c (omega arith) hc) (in_63 _ _ _ i (omega arith) hi) (in_63 _ _ _ d (omega arith) hd) (in_63 _ _ _ p (omega arith) hp) (in_63 _ _ _ b (omega arith) hb)
      (small u0 h0) (small u1 h1) (small s hs) (small g hg) (small w hw) (small l hl) (small t ht) in
      let parsed : parse_document (concat (plain_lines values ++ (first_delays values ++ last_delays values))) ≡ Some (close root) = read_document printed (plain_lines values ++ (first_delays values ++ last_delays values)) (root, codes "delay" ∷ []) ok mark ran in
      ap chip_of (sym (concat-append (plain_lines values) (first_delays values ++ last_delays values) ∙ ap (λ t. concat (plain_lines values) ++ t) (concat-append (first_delays values) (last_delays values)))) ∙ ap read_whole parsed ∙ ap (λ x. Some x) (read hc hi hd hp hb h0 h1 hs hg hw hl ht)

pub in_steps : (least most step n : ℕ) → least ≤ n → n ≤ most → n % step ≡ 0 → is_in least most step n ≡ true
in_steps least most step n low high whole = rw whole (grind (arith, nat_tests))

pub in_ones : (least most n : ℕ) → least ≤ n → n ≤ most → is_in least most 1 n ≡ true
in_ones least most n low high = in_steps least most 1 n low high (omega arith)

of_delay : (n : ℕ) → is_delay n ≡ true → is_in 1 4096 1 n ≡ true
of_delay n h = in_ones 1 4096 n (grind (arith, nat_tests)) (grind (arith, nat_tests))

pub round_list : (c i d p b : ℕ) (f : Bool) (ds : List ℕ) → length ds ≡ 7 → list_all is_delay ds ≡ true
    → is_in 1 4294967295 1 c ≡ true → is_in 4096 1048576 4096 i ≡ true → is_in 4096 1048576 4096 d ≡ true → is_in 0 7 1 p ≡ true → is_in 0 1023 1 b ≡ true
    → (v : Values) → v ≡ record { clock = c; imem = i; dmem = d; prescaler = p; baud = b; flash = f; delay = ds } → chip_of (chip_text v) ≡ Some (Ok v)
round_list c i d p b f [] h all hc hi hd hp hb v is = absurd (omega arith)
round_list c i d p b f (u0 ∷ []) h all hc hi hd hp hb v is = absurd (omega arith)
round_list c i d p b f (u0 ∷ u1 ∷ []) h all hc hi hd hp hb v is = absurd (omega arith)
round_list c i d p b f (u0 ∷ u1 ∷ s ∷ []) h all hc hi hd hp hb v is = absurd (omega arith)
round_list c i d p b f (u0 ∷ u1 ∷ s ∷ g ∷ []) h all hc hi hd hp hb v is = absurd (omega arith)
round_list c i d p b f (u0 ∷ u1 ∷ s ∷ g ∷ w ∷ []) h all hc hi hd hp hb v is = absurd (omega arith)
round_list c i d p b f (u0 ∷ u1 ∷ s ∷ g ∷ w ∷ l ∷ []) h all hc hi hd hp hb v is = absurd (omega arith)
round_list c i d p b f (u0 ∷ u1 ∷ s ∷ g ∷ w ∷ l ∷ t ∷ []) h all hc hi hd hp hb v is =
    let r0 = right (is_delay u0) _ all in
    let r1 = right (is_delay u1) _ r0 in
    let r2 = right (is_delay s) _ r1 in
    let r3 = right (is_delay g) _ r2 in
    let r4 = right (is_delay w) _ r3 in
    let r5 = right (is_delay l) _ r4 in
    rw is (round c i d p b u0 u1 s g w l t f hc hi hd hp hb (of_delay u0 (left _ _ all)) (of_delay u1 (left _ _ r0)) (of_delay s (left _ _ r1)) (of_delay g (left _ _ r2))
    (of_delay w (left _ _ r3)) (of_delay l (left _ _ r4)) (of_delay t (left _ _ r5)))
round_list c i d p b f (u0 ∷ u1 ∷ s ∷ g ∷ w ∷ l ∷ t ∷ x ∷ xs) h all hc hi hd hp hb v is = absurd (omega arith)
