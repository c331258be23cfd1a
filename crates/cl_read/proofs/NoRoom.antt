-- Where nothing begins, the readers with room are wrong too; so each reader meets those with more room.
use Rattle.std.proofs.Common.{◌≡◌, ℕ, zero, suc, ◌≤◌, Bool, true, false, cond, List, [], ◌∷◌, length, refl, arith}
use Rattle.cl_tree.specs.declared.terminal.Terminal.{Terminal}
use Rattle.cl_tree.specs.declared.terminal.Terminal.TheVariants as terminals
use Rattle.cl_tree.specs.declared.terminal.Leaf.{Leaf}
use Rattle.cl_tree.specs.Precedence.{prefixes, qualifies}
use Rattle.cl_tree.specs.Syntax.{Syntax}
use Rattle.cl_read.specs.Starts.{starts_expression, starts_simple, starts_statement, starts_type, starts_declarator}
use Rattle.cl_read.specs.Reading.{Got, Wrong, Deep, Reader, begins, is, eat_in, eat, empty, qualifiers, qualifier_of}
use Rattle.cl_read.specs.Reading.{core_of, base_of, space_of, star_of, behind_of, type_of, declarator_of, declare_of}
use Rattle.cl_read.specs.Reading.{initializers_of, block_of, simple_of, leaving, labelled, statement_of, primary_of}
use Rattle.cl_read.specs.Reading.{operand_of, unary_of, cast_of, level_of, cond_of, assign_of, expr_of, Readers}
use Rattle.cl_read.specs.Reading.{no_room, readers}
use Rattle.cl_read.proofs.Tails.{absent, included}
use Rattle.cl_read.proofs.ListRules.{all_stops}
use Rattle.cl_read.proofs.Below.{Meets, Below, below_self, AllBelow, below_above}

eat_wrong : (test : Terminal → Bool) (ts : List Leaf) → begins test ts ≡ false → eat_in test ts ≡ Wrong (length ts)
eat_wrong test [] e = refl
eat_wrong test (i ∷ ts) e = rw e refl

prefix_of_none : (j : Terminal) → prefixes j ≡ true → starts_expression j ≡ true
prefix_of_none terminals.PlusMinus e = refl
prefix_of_none terminals.Tilde e = refl
prefix_of_none terminals.Ampersand e = refl
prefix_of_none terminals.Star e = refl
prefix_of_none _ e = absurd cc

qualifier_of_none : (j : Terminal) → qualifies false j ≡ true → starts_type j ≡ true
qualifier_of_none terminals.Qualifier e = refl
qualifier_of_none _ e = absurd cc

expression_of_simple : (j : Terminal) → starts_expression j ≡ true → starts_simple j ≡ true
expression_of_simple terminals.Name e = refl
expression_of_simple terminals.Number e = refl
expression_of_simple terminals.Truth e = refl
expression_of_simple terminals.Open e = refl
expression_of_simple terminals.PlusMinus e = refl
expression_of_simple terminals.Tilde e = refl
expression_of_simple terminals.Ampersand e = refl
expression_of_simple terminals.Star e = refl
expression_of_simple terminals.Step e = refl
expression_of_simple terminals.Sizeof e = refl
expression_of_simple _ e = absurd cc

simple_of_statement : (j : Terminal) → starts_simple j ≡ true → starts_statement j ≡ true
simple_of_statement terminals.Semicolon e = refl
simple_of_statement terminals.Name e = refl
simple_of_statement terminals.Number e = refl
simple_of_statement terminals.Truth e = refl
simple_of_statement terminals.Open e = refl
simple_of_statement terminals.PlusMinus e = refl
simple_of_statement terminals.Tilde e = refl
simple_of_statement terminals.Ampersand e = refl
simple_of_statement terminals.Star e = refl
simple_of_statement terminals.Step e = refl
simple_of_statement terminals.Sizeof e = refl
simple_of_statement _ e = absurd cc

-- ---- types

module _ (ts : List Leaf) (none_ : begins starts_type ts ≡ false) where
  base_wrong : base_of ts ≡ Wrong (length ts)
  unfolding base_of core_of
  base_wrong =
      let a : begins (is terminals.TypeWord) ts ≡ false = absent starts_type terminals.TypeWord refl ts none_ in
      let b : begins (is terminals.Sign) ts ≡ false = absent starts_type terminals.Sign refl ts none_ in
      let c : begins (is terminals.Char) ts ≡ false = absent starts_type terminals.Char refl ts none_ in
      let d : begins (is terminals.Int) ts ≡ false = absent starts_type terminals.Int refl ts none_ in
      let e : eat terminals.Length ts ≡ Wrong (length ts) =
      eat_wrong (is terminals.Length) ts (absent starts_type terminals.Length refl ts none_) in
      rw (a, b, c, d, e) refl

  type_wrong : (low : Readers) → type_of low ts ≡ Wrong (length ts)
  unfolding type_of behind_of
  type_wrong low =
      let a : qualifiers false ts ≡ Got empty ts =
      all_stops (qualifies false) (qualifier_of false) ts
      (included starts_type (qualifies false) qualifier_of_none ts none_) in
      let b : begins (is terminals.Space) ts ≡ false = absent starts_type terminals.Space refl ts none_ in
      rw (a, b, base_wrong) refl

  readers_type : (n : ℕ) → (readers n).type' ts ≡ Wrong (length ts)
  unfolding readers
  readers_type zero = rw none_ refl
  readers_type (suc n) = type_wrong (readers n)

  declare_wrong : (n : ℕ) → declare_of (readers n) ts ≡ Wrong (length ts)
  unfolding declare_of
  declare_wrong n = rw (readers_type n) refl

declarator_wrong : (low : Readers) (ts : List Leaf) → begins starts_declarator ts ≡ false →
    declarator_of low ts ≡ Wrong (length ts)
unfolding declarator_of
declarator_wrong low ts e =
    let a : begins (is terminals.Star) ts ≡ false = absent starts_declarator terminals.Star refl ts e in
    let b : eat terminals.Name ts ≡ Wrong (length ts) =
    eat_wrong (is terminals.Name) ts (absent starts_declarator terminals.Name refl ts e) in
    rw (a, b) refl

space_wrong : (ts : List Leaf) → begins (is terminals.Space) ts ≡ false → space_of ts ≡ Wrong (length ts)
unfolding space_of
space_wrong ts e = rw (eat_wrong (is terminals.Space) ts e) refl

star_wrong : (ts : List Leaf) → begins (is terminals.Star) ts ≡ false → star_of ts ≡ Wrong (length ts)
unfolding star_of
star_wrong ts e = rw (eat_wrong (is terminals.Star) ts e) refl

initializers_wrong : (low : Readers) (ts : List Leaf) → begins (is terminals.OpenBrace) ts ≡ false →
    initializers_of low ts ≡ Wrong (length ts)
unfolding initializers_of
initializers_wrong low ts e = rw (eat_wrong (is terminals.OpenBrace) ts e) refl

block_wrong : (low : Readers) (ts : List Leaf) → begins (is terminals.OpenBrace) ts ≡ false →
    block_of low ts ≡ Wrong (length ts)
unfolding block_of
block_wrong low ts e = rw (eat_wrong (is terminals.OpenBrace) ts e) refl

-- ---- expressions

module _ (n : ℕ) (low : Readers) (ts : List Leaf) (none_ : begins starts_expression ts ≡ false) where
  operand_wrong : operand_of n low ts ≡ Wrong (length ts)
  unfolding operand_of primary_of
  operand_wrong =
      let a : begins (is terminals.Step) ts ≡ false = absent starts_expression terminals.Step refl ts none_ in
      let b : begins prefixes ts ≡ false = included starts_expression prefixes prefix_of_none ts none_ in
      let c : begins (is terminals.Sizeof) ts ≡ false = absent starts_expression terminals.Sizeof refl ts none_ in
      let d : begins (is terminals.Name) ts ≡ false = absent starts_expression terminals.Name refl ts none_ in
      let e : begins (is terminals.Truth) ts ≡ false = absent starts_expression terminals.Truth refl ts none_ in
      let f : eat terminals.Number ts ≡ Wrong (length ts) =
      eat_wrong (is terminals.Number) ts (absent starts_expression terminals.Number refl ts none_) in
      rw (a, b, c, d, e, f) refl

  unary_wrong : unary_of n low ts ≡ Wrong (length ts)
  unfolding unary_of
  unary_wrong = let a : begins (is terminals.Open) ts ≡ false =
      absent starts_expression terminals.Open refl ts none_ in rw (a, operand_wrong) refl

  cast_wrong : cast_of n low ts ≡ Wrong (length ts)
  unfolding cast_of
  cast_wrong = let a : begins (is terminals.Open) ts ≡ false =
      absent starts_expression terminals.Open refl ts none_ in rw (a, operand_wrong) refl

  level_wrong : (k : ℕ) → level_of n low k ts ≡ Wrong (length ts)
  unfolding level_of
  level_wrong zero = cast_wrong
  level_wrong (suc k) = rw (level_wrong k) refl

  cond_wrong : cond_of n low ts ≡ Wrong (length ts)
  unfolding cond_of
  cond_wrong = rw (level_wrong 10) refl

  assign_wrong : assign_of n low ts ≡ Wrong (length ts)
  unfolding assign_of
  assign_wrong = rw cond_wrong refl

  expr_wrong : expr_of n low ts ≡ Wrong (length ts)
  unfolding expr_of
  expr_wrong = rw assign_wrong refl

readers_expr : (n : ℕ) (ts : List Leaf) → begins starts_expression ts ≡ false → (readers n).expr ts ≡ Wrong (length ts)
unfolding readers
readers_expr zero ts e = rw e refl
readers_expr (suc n) ts e = expr_wrong n (readers n) ts e

-- ---- statements

simple_wrong : (n : ℕ) (ts : List Leaf) → begins starts_simple ts ≡ false → simple_of (readers n) ts ≡ Wrong (length ts)
unfolding simple_of
simple_wrong n ts e =
    let a : begins (is terminals.Semicolon) ts ≡ false = absent starts_simple terminals.Semicolon refl ts e in
    let b : (readers n).expr ts ≡ Wrong (length ts) =
    readers_expr n ts (included starts_simple starts_expression expression_of_simple ts e) in
    rw (a, b) refl

statement_wrong : (n : ℕ) (ts : List Leaf) → begins starts_statement ts ≡ false →
    statement_of (readers n) ts ≡ Wrong (length ts)
unfolding statement_of labelled leaving
statement_wrong n ts e =
    let a : begins (is terminals.OpenBrace) ts ≡ false = absent starts_statement terminals.OpenBrace refl ts e in
    let b : begins (is terminals.If) ts ≡ false = absent starts_statement terminals.If refl ts e in
    let c : begins (is terminals.While) ts ≡ false = absent starts_statement terminals.While refl ts e in
    let d : begins (is terminals.Do) ts ≡ false = absent starts_statement terminals.Do refl ts e in
    let f : begins (is terminals.For) ts ≡ false = absent starts_statement terminals.For refl ts e in
    let g : begins (is terminals.Switch) ts ≡ false = absent starts_statement terminals.Switch refl ts e in
    let h : begins (is terminals.Case) ts ≡ false = absent starts_statement terminals.Case refl ts e in
    let i : begins (is terminals.Default) ts ≡ false = absent starts_statement terminals.Default refl ts e in
    let j : begins (is terminals.Break) ts ≡ false = absent starts_statement terminals.Break refl ts e in
    let k : begins (is terminals.Continue) ts ≡ false = absent starts_statement terminals.Continue refl ts e in
    let l : begins (is terminals.Return) ts ≡ false = absent starts_statement terminals.Return refl ts e in
    let m : simple_of (readers n) ts ≡ Wrong (length ts) =
    simple_wrong n ts (included starts_statement starts_simple simple_of_statement ts e) in
    rw (a, b, c, d, f, g, h, i, j, k, l, m) refl

-- ---- all of them

below_no_room : (test : Terminal → Bool) (q : Reader Syntax) →
    ((ts : List Leaf) → begins test ts ≡ false → q ts ≡ Wrong (length ts)) → Below (no_room test) q
below_no_room test q h ts = go (begins test ts) refl
  where
    go : (b : Bool) → begins test ts ≡ b → Meets (cond b (Deep (length ts)) (Wrong (length ts))) (q ts)
    go true e = tt
    go false e = h ts e

pub all_below : (n m : ℕ) → n ≤ m → AllBelow (readers n) (readers m)
unfolding readers
all_below zero zero d = record {
  space = below_self (no_room (is terminals.Space));
  star = below_self (no_room (is terminals.Star));
  type' = below_self (no_room starts_type);
  declare = below_self (no_room starts_type);
  declarator = below_self (no_room starts_declarator);
  initializers = below_self (no_room (is terminals.OpenBrace));
  block = below_self (no_room (is terminals.OpenBrace));
  simple = below_self (no_room starts_simple);
  statement = below_self (no_room starts_statement);
  expr = below_self (no_room starts_expression);
  assign = below_self (no_room starts_expression);
  cond' = below_self (no_room starts_expression);
  level = λ k. below_self (no_room starts_expression);
  cast = below_self (no_room starts_expression);
  unary = below_self (no_room starts_expression);
}
all_below zero (suc m) d = record {
  space = below_no_room (is terminals.Space) space_of space_wrong;
  star = below_no_room (is terminals.Star) star_of star_wrong;
  type' = below_no_room starts_type (type_of (readers m)) (λ ts e. type_wrong ts e (readers m));
  declare = below_no_room starts_type (declare_of (readers m)) (λ ts e. declare_wrong ts e m);
  declarator = below_no_room starts_declarator (declarator_of (readers m)) (declarator_wrong (readers m));
  initializers = below_no_room (is terminals.OpenBrace) (initializers_of (readers m)) (initializers_wrong (readers m));
  block = below_no_room (is terminals.OpenBrace) (block_of (readers m)) (block_wrong (readers m));
  simple = below_no_room starts_simple (simple_of (readers m)) (simple_wrong m);
  statement = below_no_room starts_statement (statement_of (readers m)) (statement_wrong m);
  expr = below_no_room starts_expression (expr_of m (readers m)) (expr_wrong m (readers m));
  assign = below_no_room starts_expression (assign_of m (readers m)) (assign_wrong m (readers m));
  cond' = below_no_room starts_expression (cond_of m (readers m)) (cond_wrong m (readers m));
  level = λ k. below_no_room starts_expression (level_of m (readers m) k) (λ ts e. level_wrong m (readers m) ts e k);
  cast = below_no_room starts_expression (cast_of m (readers m)) (cast_wrong m (readers m));
  unary = below_no_room starts_expression (unary_of m (readers m)) (unary_wrong m (readers m));
}
all_below (suc n) zero d = absurd (omega arith)
all_below (suc n) (suc m) d = below_above n m (omega arith) (readers n) (readers m) (all_below n m (omega arith))
