-- The readers at a number above 0, and at 0.
use Rattle.std.proofs.Common.{◌≡◌, ℕ, suc, ◌-◌, ◌<◌, List, refl, sym, arith, ap, ◌∙◌}
use Rattle.cl_tree.specs.declared.terminal.Leaf.{Leaf}
use Rattle.cl_tree.specs.declared.terminal.Terminal.TheVariants as terminals
use Rattle.cl_tree.specs.Precedence.{joins}
use Rattle.cl_read.specs.Starts.{starts_expression, starts_simple, starts_statement, starts_type, starts_declarator}
use Rattle.cl_read.specs.Reading.{readers, after, is, no_room, chain, space_of, star_of, type_of, declare_of}
use Rattle.cl_read.specs.Reading.{declarator_of, initializers_of, block_of, simple_of, statement_of, expr_of}
use Rattle.cl_read.specs.Reading.{expr_step, assign_of, cond_of, level_of, level_step, cast_of, unary_of}

above : (b : ℕ) → 0 < b → b ≡ suc (b - 1)
above b h = omega arith

pub none_space : (ts : List Leaf) → (readers 0).space ts ≡ no_room (is terminals.Space) ts
unfolding readers
none_space ts = refl

pub open_space : (b : ℕ) (ts : List Leaf) → 0 < b → (readers b).space ts ≡ space_of ts
unfolding readers
open_space b ts h = ap (λ n. (readers n).space ts) (above b h)

pub none_star : (ts : List Leaf) → (readers 0).star ts ≡ no_room (is terminals.Star) ts
unfolding readers
none_star ts = refl

pub open_star : (b : ℕ) (ts : List Leaf) → 0 < b → (readers b).star ts ≡ star_of ts
unfolding readers
open_star b ts h = ap (λ n. (readers n).star ts) (above b h)

pub none_type : (ts : List Leaf) → (readers 0).type' ts ≡ no_room starts_type ts
unfolding readers
none_type ts = refl

pub open_type : (b : ℕ) (ts : List Leaf) → 0 < b → (readers b).type' ts ≡ type_of (readers (b - 1)) ts
unfolding readers
open_type b ts h = ap (λ n. (readers n).type' ts) (above b h)

pub none_declare : (ts : List Leaf) → (readers 0).declare ts ≡ no_room starts_type ts
unfolding readers
none_declare ts = refl

pub open_declare : (b : ℕ) (ts : List Leaf) → 0 < b → (readers b).declare ts ≡ declare_of (readers (b - 1)) ts
unfolding readers
open_declare b ts h = ap (λ n. (readers n).declare ts) (above b h)

pub none_declarator : (ts : List Leaf) → (readers 0).declarator ts ≡ no_room starts_declarator ts
unfolding readers
none_declarator ts = refl

pub open_declarator : (b : ℕ) (ts : List Leaf) → 0 < b → (readers b).declarator ts ≡ declarator_of (readers (b - 1)) ts
unfolding readers
open_declarator b ts h = ap (λ n. (readers n).declarator ts) (above b h)

pub none_initializers : (ts : List Leaf) → (readers 0).initializers ts ≡ no_room (is terminals.OpenBrace) ts
unfolding readers
none_initializers ts = refl

pub open_initializers : (b : ℕ) (ts : List Leaf) → 0 < b →
    (readers b).initializers ts ≡ initializers_of (readers (b - 1)) ts
unfolding readers
open_initializers b ts h = ap (λ n. (readers n).initializers ts) (above b h)

pub none_block : (ts : List Leaf) → (readers 0).block ts ≡ no_room (is terminals.OpenBrace) ts
unfolding readers
none_block ts = refl

pub open_block : (b : ℕ) (ts : List Leaf) → 0 < b → (readers b).block ts ≡ block_of (readers (b - 1)) ts
unfolding readers
open_block b ts h = ap (λ n. (readers n).block ts) (above b h)

pub none_simple : (ts : List Leaf) → (readers 0).simple ts ≡ no_room starts_simple ts
unfolding readers
none_simple ts = refl

pub open_simple : (b : ℕ) (ts : List Leaf) → 0 < b → (readers b).simple ts ≡ simple_of (readers (b - 1)) ts
unfolding readers
open_simple b ts h = ap (λ n. (readers n).simple ts) (above b h)

pub none_statement : (ts : List Leaf) → (readers 0).statement ts ≡ no_room starts_statement ts
unfolding readers
none_statement ts = refl

pub open_statement : (b : ℕ) (ts : List Leaf) → 0 < b → (readers b).statement ts ≡ statement_of (readers (b - 1)) ts
unfolding readers
open_statement b ts h = ap (λ n. (readers n).statement ts) (above b h)

pub none_expr : (ts : List Leaf) → (readers 0).expr ts ≡ no_room starts_expression ts
unfolding readers
none_expr ts = refl

pub none_assign : (ts : List Leaf) → (readers 0).assign ts ≡ no_room starts_expression ts
unfolding readers
none_assign ts = refl

pub open_assign : (b : ℕ) (ts : List Leaf) → 0 < b → (readers b).assign ts ≡ assign_of (b - 1) (readers (b - 1)) ts
unfolding readers
open_assign b ts h = ap (λ n. (readers n).assign ts) (above b h)

pub none_cond : (ts : List Leaf) → (readers 0).cond' ts ≡ no_room starts_expression ts
unfolding readers
none_cond ts = refl

pub open_cond : (b : ℕ) (ts : List Leaf) → 0 < b → (readers b).cond' ts ≡ cond_of (b - 1) (readers (b - 1)) ts
unfolding readers
open_cond b ts h = ap (λ n. (readers n).cond' ts) (above b h)

pub none_cast : (ts : List Leaf) → (readers 0).cast ts ≡ no_room starts_expression ts
unfolding readers
none_cast ts = refl

pub open_cast : (b : ℕ) (ts : List Leaf) → 0 < b → (readers b).cast ts ≡ cast_of (b - 1) (readers (b - 1)) ts
unfolding readers
open_cast b ts h = ap (λ n. (readers n).cast ts) (above b h)

pub none_unary : (ts : List Leaf) → (readers 0).unary ts ≡ no_room starts_expression ts
unfolding readers
none_unary ts = refl

pub open_unary : (b : ℕ) (ts : List Leaf) → 0 < b → (readers b).unary ts ≡ unary_of (b - 1) (readers (b - 1)) ts
unfolding readers
open_unary b ts h = ap (λ n. (readers n).unary ts) (above b h)

pub none_level : (k : ℕ) (ts : List Leaf) → (readers 0).level k ts ≡ no_room starts_expression ts
unfolding readers
none_level k ts = refl

pub open_level_first : (b : ℕ) (ts : List Leaf) → 0 < b → (readers b).level 0 ts ≡ (readers b).cast ts
unfolding readers level_of
open_level_first b ts h = ap (λ n. (readers n).level 0 ts) (above b h) ∙ ap (λ n. (readers n).cast ts) (sym (above b h))

pub open_level_next : (b k : ℕ) (ts : List Leaf) → 0 < b → 0 < k →
    (readers b).level k ts ≡ after ((readers b).level (k - 1) ts)
    (λ l. chain (b - 1) (joins (k - 1)) (level_step (b - 1) (readers (b - 1)) (k - 1)) (b - 1) l)
unfolding readers level_of
open_level_next b k ts h d =
    ap (λ n. (readers n).level k ts) (above b h) ∙ ap (λ j. level_of (b - 1) (readers (b - 1)) j ts) (above k d)
    ∙ ap (λ n. after ((readers n).level (k - 1) ts)
    (λ l. chain (b - 1) (joins (k - 1)) (level_step (b - 1) (readers (b - 1)) (k - 1)) (b - 1) l))
    (sym (above b h))

pub level_top : (b : ℕ) (ts : List Leaf) → 0 < b → level_of (b - 1) (readers (b - 1)) 10 ts ≡ (readers b).level 10 ts
unfolding readers
level_top b ts h = ap (λ n. (readers n).level 10 ts) (sym (above b h))

pub open_expr : (b : ℕ) (ts : List Leaf) → 0 < b →
    (readers b).expr ts ≡ after ((readers b).assign ts)
    (λ l. chain (b - 1) (is terminals.Comma) (expr_step (b - 1) (readers (b - 1))) (b - 1) l)
unfolding readers expr_of
open_expr b ts h = ap (λ n. (readers n).expr ts) (above b h) ∙
    ap (λ n. after ((readers n).assign ts)
    (λ l. chain (b - 1) (is terminals.Comma) (expr_step (b - 1) (readers (b - 1))) (b - 1) l)) (sym (above b h))

pub ruleset equations = (
  none_space,
  open_space,
  none_star,
  open_star,
  none_type,
  open_type,
  none_declare,
  open_declare,
  none_declarator,
  open_declarator,
  none_initializers,
  open_initializers,
  none_block,
  open_block,
  none_simple,
  open_simple,
  none_statement,
  open_statement,
  none_expr,
  none_assign,
  open_assign,
  none_cond,
  open_cond,
  none_cast,
  open_cast,
  none_unary,
  open_unary,
  none_level,
  open_level_first,
  open_level_next,
  open_expr,
)
