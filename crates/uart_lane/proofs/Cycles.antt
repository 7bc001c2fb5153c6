-- What a UART unit gives in a cycle, by its message.
use Rattle.std.proofs.Common.{◌≡◌, ℕ, Option, None, Some, sym, ap, ◌∙◌}
use Rattle.chip_base.specs.declared.message.Down.{Down}
use Rattle.chip_base.specs.declared.message.Down.TheVariants.{Reset, Set}
use Rattle.uart_lane.specs.Cycle.{begun, received, reset, sent, set_in, uart_cycle}
use Rattle.uart_lane.specs.State.{UartState}

module _ (s : UartState) (now : ℕ) (down : Option Down) where
  pub given_none : down ≡ None → received (sent (begun s) now) now ≡ uart_cycle s now down
  unfolding uart_cycle
  given_none e = ap (uart_cycle s now) (sym e)

  pub given_reset : down ≡ Some Reset → reset s ≡ uart_cycle s now down
  unfolding uart_cycle
  given_reset e = ap (uart_cycle s now) (sym e)

  pub given_set : (set : UartState) (reg word : ℕ) → down ≡ Some (Set reg word) → set ≡ set_in s reg word
      → received (sent (begun set) now) now ≡ uart_cycle s now down
  unfolding uart_cycle
  given_set set reg word e h = ap (λ x. received (sent (begun x) now) now) h ∙ ap (uart_cycle s now) (sym e)
