-- Same s t: the definitions and the kept tokens of t are those of s
-- Weighed p q t u: working out a condition leaves the definitions and the blocks of p and what the meter t stores
-- Worked p q t u: working on a gathered line leaves the definitions and the blocks of p, and what the meter t stores in front
-- Beside p q: all of a directive processor but its definitions is as it was
use Rattle.std.specs.Prelude.{◌≡◌, vec_items}
use Rattle.defines.specs.declared.table.Defines.{Defines}
use Rattle.defines.specs.Held.{held}
use Rattle.stores.specs.Tank.{Tank, Spends, Grows}
use Rattle.directives.specs.declared.processor.DirectiveProcessor.{DirectiveProcessor}

pub record Same (s t : Defines) : Type 0 where
  pub defs : held t ≡ held s
  pub kept : vec_items t.kept ≡ vec_items s.kept

pub record Beside {S : Type 0} (p q : DirectiveProcessor S) : Type 0 where
  pub reader : q.reader ≡ p.reader
  pub blocks : q.blocks ≡ p.blocks
  pub parser : q.parser ≡ p.parser
  pub offset : q.line_offset ≡ p.line_offset
  pub directive : q.had_directive ≡ p.had_directive
  pub text : q.had_non_directive_token ≡ p.had_non_directive_token

pub record Weighed {S : Type 0} (p q : DirectiveProcessor S) (t u : Tank) : Type 0 where
  pub defs : held q.defines ≡ held p.defines
  pub stores : Spends t u
  pub segments : q.blocks ≡ p.blocks

pub record Worked {S : Type 0} (p q : DirectiveProcessor S) (t u : Tank) : Type 0 where
  pub defs : held q.defines ≡ held p.defines
  pub stores : Grows t u
  pub segments : q.blocks ≡ p.blocks
