-- Each reader of statements reads what the grammar says, and so do all of the readers.
use Rattle.std.proofs.Common.{◌≡◌, ℕ, zero, suc, ◌+◌, ◌<◌, Bool, true, List, [], ◌∷◌, ◌++◌, length, refl, sym, ap}
use Rattle.std.proofs.Common.{subst}
use Rattle.std.proofs.lemmas.List.{append-nil}
use Rattle.std.specs.Prelude.{not}
use Rattle.cl_tree.specs.declared.terminal.Terminal.{Terminal}
use Rattle.cl_tree.specs.declared.terminal.Terminal.TheVariants as terminals
use Rattle.cl_tree.specs.declared.terminal.Leaf.{Leaf}
use Rattle.cl_tree.specs.declared.tree.Form.TheVariants as forms
use Rattle.cl_tree.specs.Syntax.{Syntax, Forest, none, more}
use Rattle.cl_tree.specs.Nodes.{Spot, tok, word_node, if_node, simple_node, declare_node, declarator_node}
use Rattle.cl_tree.specs.Grammar as grammar
use Rattle.cl_tree.specs.Grammar.{closed, Sort, TypeName, Star, Declare, Declarator, Initializers, Block, Line}
use Rattle.cl_tree.specs.Grammar.{Start, Simple, Statement, Expr, Assign, Cond, Cast, Unary, Level, Qualifier}
use Rattle.cl_tree.specs.Grammar.{Just, Space, one, list, Spells}
use Rattle.cl_read.specs.Starts.{same, starts_type, starts_expression, starts_simple, starts_statement}
use Rattle.cl_read.specs.Starts.{starts_declarator}
use Rattle.cl_read.specs.Reading.{Got, Reader, ◌>>=◌, begins, is, choose, each, Readers, line_of, block_of, simple_of}
use Rattle.cl_read.specs.Reading.{if_of, while_of, do_of, start_of, for_of, switch_of, case_of, default_of, leave_of}
use Rattle.cl_read.specs.Reading.{return_of, leaving, labelled, statement_of, wrong, no_room, readers, next_readers}
use Rattle.cl_read.proofs.Tails.{same_terminal, spot, leaves_at, leaves_append}
use Rattle.cl_read.proofs.Good.{Good, weaker, then_at, then_some, good_then, good_done, then_done, good_deep}
use Rattle.cl_read.proofs.Good.{good_wrong, choose_at}
use Rattle.cl_read.proofs.Rules.{choice, spot_of, then_eat, eat_done}
use Rattle.cl_read.proofs.ListRules.{Shrinks}
use Rattle.cl_read.proofs.First.{long, line_first, statement_first}
use Rattle.cl_read.proofs.Sound.{Tree_of, good_many, members_shrink, good_each, good_option, good_space, good_star}
use Rattle.cl_read.proofs.Sound.{AllGood, one_number, level_of_cast, cond_of_cast, assign_of_cast, expr_of_cast}
use Rattle.cl_read.proofs.Sound.{good_type, good_declarator, good_declare, good_initializers, good_unary, good_cast}
use Rattle.cl_read.proofs.Sound.{good_level, good_cond_of, good_assign, good_expr}
use Rattle.cl_read.proofs.Ends.{ends_statement, no_room_ends}

-- a choice behind a reader, where the token that decides tells something of what was read
module _ {A B : Type 0} (p : Reader A) (test : Terminal → Bool) (g h : A → Reader B) (R : A → List Leaf →
    Type 0) (Q : B → List Leaf → Type 0) (C : A → Type 0) where
  good_branch : Good p R → ((ts rest : List Leaf) (a : A) → p ts ≡ Got a rest → begins test rest ≡ true → C a) →
      ((a : A) (x : List Leaf) → R a x → C a → Good (g a) (λ b y. Q b (x ++ y))) →
      ((a : A) (x : List Leaf) → R a x → Good (h a) (λ b y. Q b (x ++ y))) → Good (p >>= λ a. choose test (g a) (h a)) Q
  good_branch d c one_way other_way = record {
    run = λ ts. then_at p (λ a. choose test (g a) (h a)) R Q ts (p ts) refl (d.run ts)
        (λ a x rest e s r. choose_at test (g a) (h a) (λ b y. Q b (x ++ y)) rest
        (λ b. (one_way a x r (c ts rest a e b)).run rest) (λ _. (other_way a x r).run rest))
        (λ a x r. (other_way a x r).some);
    some = then_some p (λ a. choose test (g a) (h a)) R Q d.some (λ a x r. (other_way a x r).some);
  }

abbrev pub not_end : Terminal → Bool
not_end = λ k. not (same k terminals.CloseBrace)

line_long : (own : List Spot) (parts : Forest) (x : List Leaf) → Spells (Just Line) (list own parts) x → 0 < length x
line_long own parts x (grammar.just h) = long _ x (line_first h [])

statement_long : (own : List Spot) (parts : Forest) (x : List Leaf) → Spells (Just Statement) (list own parts) x →
    0 < length x
statement_long own parts x (grammar.just h) = long _ x (statement_first h [])

module _ (low : Readers) (g : AllGood low) where
  good_line : Good (line_of low) (Tree_of Line)
  unfolding line_of
  good_line = choice _ _ _ _ (weaker _ _ _ (λ t x h. grammar.line_declare h) g.declare)
      (weaker _ _ _ (λ t x h. grammar.line_statement h) g.statement)

  pub lines_shrink : Shrinks not_end (each (line_of low))
  lines_shrink =
      members_shrink not_end (each (line_of low)) (Just Line) line_long (good_each (line_of low) Line good_line)

  pub statements_shrink : Shrinks not_end (each low.statement)
  statements_shrink = members_shrink not_end (each low.statement) (Just Statement) statement_long
      (good_each low.statement Statement g.statement)

  pub good_block : Good (block_of low) (Tree_of Block)
  unfolding block_of
  good_block = then_eat _ _ _ (λ o. good_then _ _ _ _ (good_many not_end (each (line_of low)) (Just Line) line_long
      (good_each (line_of low) Line good_line)) (λ l x h. eat_done _ _ _ (λ c. grammar.block o h c)))

  good_simple : Good (simple_of low) (Tree_of Simple)
  unfolding simple_of
  good_simple = good_then _ _ _ _ (good_option _ _ Expr g.expr) (λ ts x h. eat_done _ _ _ (λ s. grammar.simple h s))

  good_if : Good (if_of low) (Tree_of Statement)
  unfolding if_of
  good_if = then_eat _ _ _ (λ i. then_eat _ _ _ (λ o. good_then _ _ _ _ g.expr (λ e x h. then_eat _ _ _ (λ c.
      good_branch _ _ _ _ _ _ (λ s. closed s ≡ true) g.statement (λ ts rest s. g.ends ts rest s)
      (λ s y k q. then_eat _ _ _ (λ m. then_done _ _ _ _ g.statement (λ u z v. grammar.if_long i o h c k q m v)))
      (λ s y k. good_done _ _ (subst (λ z. Tree_of Statement (if_node i o e c s) (tok terminals.If i ∷
      tok terminals.Open o ∷ (x ++ (tok terminals.Close c ∷ z)))) (sym (append-nil y))
      (grammar.if_short i o h c k)))))))

  good_while : Good (while_of low) (Tree_of Statement)
  unfolding while_of
  good_while = then_eat _ _ _ (λ w.
      then_eat _ _ _ (λ o. good_then _ _ _ _ g.expr
      (λ e x h. then_eat _ _ _ (λ c. then_done _ _ _ _ g.statement (λ s y k. grammar.while w o h c k)))))

  good_do : Good (do_of low) (Tree_of Statement)
  unfolding do_of
  good_do = then_eat _ _ _ (λ d.
      good_then _ _ _ _ g.statement (λ s x h.
      then_eat _ _ _ (λ w. then_eat _ _ _
      (λ o. good_then _ _ _ _ g.expr
      (λ e y k. then_eat _ _ _ (λ c. eat_done _ _ _ (λ m. grammar.do_while d h w o k c m)))))))

  good_start : Good (start_of low) (Tree_of Start)
  unfolding start_of
  good_start = choice _ _ _ _ (weaker _ _ _ (λ t x h. grammar.start_declare h) g.declare)
      (weaker _ _ _ (λ t x h. grammar.start_simple h) g.simple)

  good_for : Good (for_of low) (Tree_of Statement)
  unfolding for_of
  good_for = then_eat _ _ _ (λ f.
      then_eat _ _ _ (λ o. good_then _ _ _ _ good_start (λ d x h. good_then _ _ _ _ (good_option _ _ Expr g.expr)
      (λ ts y i. then_eat _ _ _ (λ s. good_then _ _ _ _ (good_option _ _ Expr g.expr)
      (λ us z j. then_eat _ _ _ (λ c. then_done _ _ _ _ g.statement (λ b w k. grammar.for f o h i s j c k))))))))

  good_switch : Good (switch_of low) (Tree_of Statement)
  unfolding switch_of
  good_switch = then_eat _ _ _ (λ w.
      then_eat _ _ _ (λ o. good_then _ _ _ _ g.expr
      (λ e x h. then_eat _ _ _ (λ c.
      then_eat _ _ _ (λ b. good_then _ _ _ _ (good_many not_end (each low.statement) (Just Statement)
      statement_long (good_each low.statement Statement g.statement))
      (λ l y i. eat_done _ _ _ (λ d. grammar.switch w o h c b i d)))))))

  good_case : Good (case_of low) (Tree_of Statement)
  unfolding case_of
  good_case = then_eat _ _ _ (λ w.
      good_then _ _ _ _ g.cond' (λ e x h.
      then_eat _ _ _ (λ c. then_done _ _ _ _ g.statement (λ s y k. grammar.case w h c k))))

  good_default : Good (default_of low) (Tree_of Statement)
  unfolding default_of
  good_default =
      then_eat _ _ _ (λ w. then_eat _ _ _ (λ c. then_done _ _ _ _ g.statement (λ s y k. grammar.default w c k)))

  good_break : Good (leave_of low terminals.Break forms.BreakNode) (Tree_of Statement)
  unfolding leave_of
  good_break = then_eat _ _ _ (λ w. eat_done _ _ _ (λ s. grammar.break w s))

  good_continue : Good (leave_of low terminals.Continue forms.ContinueNode) (Tree_of Statement)
  unfolding leave_of
  good_continue = then_eat _ _ _ (λ w. eat_done _ _ _ (λ s. grammar.continue w s))

  good_return : Good (return_of low) (Tree_of Statement)
  unfolding return_of
  good_return = then_eat _ _ _ (λ w. good_then _ _ _ _ (good_option _ _ Expr g.expr)
      (λ ts x h. eat_done _ _ _ (λ s. grammar.return w h s)))

  good_statement : Good (statement_of low) (Tree_of Statement)
  unfolding statement_of labelled leaving
  good_statement = choice _ _ _ _ (weaker _ _ _ (λ t x h. grammar.statement_block h) good_block)
      (choice _ _ _ _ good_if (choice _ _ _ _ good_while (choice _ _ _ _ good_do (choice _ _ _ _ good_for
      (choice _ _ _ _ good_switch (choice _ _ _ _ good_case (choice _ _ _ _ good_default
      (choice _ _ _ _ good_break (choice _ _ _ _ good_continue
      (choice _ _ _ _ good_return (weaker _ _ _ (λ t x h. grammar.statement_simple h) good_simple)))))))))))

pub good_above : (n : ℕ) (low : Readers) → AllGood low → AllGood (next_readers n low)
good_above n low g = record {
  ends = ends_statement low g.ends;
  space = good_space;
  star = good_star;
  type' = good_type low g;
  declare = good_declare low g;
  declarator = good_declarator low g;
  initializers = good_initializers low g;
  block = good_block low g;
  simple = good_simple low g;
  statement = good_statement low g;
  expr = good_expr n low g;
  assign = good_assign n low g;
  cond' = good_cond_of n low g;
  level = good_level n low g;
  cast = good_cast n low g;
  unary = good_unary n low g;
}

-- ---- what a token can begin, by its terminal

-- a tree that begins with the token, the tokens behind it being numbered from k on
abbrev Begun : Sort → Terminal → Spot → ℕ → Type 0
Begun s j m k = (t : Syntax) × (tail : List Terminal) × Tree_of s t (tok j m ∷ leaves_at k tail)

unary_at : (j : Terminal) (m : Spot) → starts_expression j ≡ true → (k : ℕ) → Begun Unary j m k
unary_at terminals.Name m e k = (_, [], grammar.unary_postfix (grammar.postfix_primary (grammar.variable m)))
unary_at terminals.Number m e k = (_, [], grammar.unary_postfix (grammar.postfix_primary (grammar.number m)))
unary_at terminals.Truth m e k = (_, [], grammar.unary_postfix (grammar.postfix_primary (grammar.truth m)))
unary_at terminals.Open m e k = (
  _,
  terminals.Number ∷ terminals.Close ∷ [],
  grammar.unary_postfix (grammar.postfix_primary (grammar.paren m (expr_of_cast (one_number k))
      (spot terminals.Close (suc k)))),
)
unary_at terminals.PlusMinus m e k =
    (_, terminals.Number ∷ [], grammar.unary_prefix terminals.PlusMinus m refl (one_number k))
unary_at terminals.Tilde m e k = (_, terminals.Number ∷ [], grammar.unary_prefix terminals.Tilde m refl (one_number k))
unary_at terminals.Ampersand m e k =
    (_, terminals.Number ∷ [], grammar.unary_prefix terminals.Ampersand m refl (one_number k))
unary_at terminals.Star m e k = (_, terminals.Number ∷ [], grammar.unary_prefix terminals.Star m refl (one_number k))
unary_at terminals.Step m e k = (
  _,
  terminals.Number ∷ [],
  grammar.unary_step m
      (grammar.unary_postfix (grammar.postfix_primary (grammar.number (spot terminals.Number k)))),
)
unary_at terminals.Sizeof m e k = (
  _,
  terminals.Open ∷ terminals.TypeWord ∷ terminals.Close ∷ [],
  grammar.unary_sizeof m (spot terminals.Open k)
      (grammar.type_plain grammar.many_end (grammar.base_word (spot terminals.TypeWord (suc k))) grammar.many_end)
      (spot terminals.Close (suc (suc k))),
)
unary_at _ m e k = absurd cc

type_at : (j : Terminal) (m : Spot) → starts_type j ≡ true → (k : ℕ) → Begun TypeName j m k
type_at terminals.Qualifier m e k = (
  _,
  terminals.TypeWord ∷ [],
  grammar.type_plain (grammar.many_more (grammar.qualifier terminals.Qualifier m refl)
      grammar.many_end) (grammar.base_word (spot terminals.TypeWord k)) grammar.many_end,
)
type_at terminals.Space m e k = (
  _,
  terminals.TypeWord ∷ [],
  grammar.type_front grammar.many_end (grammar.space m) grammar.many_end
      (grammar.base_word (spot terminals.TypeWord k)) grammar.many_end,
)
type_at terminals.TypeWord m e k = (_, [], grammar.type_plain grammar.many_end (grammar.base_word m) grammar.many_end)
type_at terminals.Sign m e k = (_, [], grammar.type_plain grammar.many_end (grammar.base_sign m) grammar.many_end)
type_at terminals.Char m e k =
    (_, [], grammar.type_plain grammar.many_end (grammar.base_core (grammar.core_char m)) grammar.many_end)
type_at terminals.Int m e k =
    (_, [], grammar.type_plain grammar.many_end (grammar.base_core (grammar.core_int m)) grammar.many_end)
type_at terminals.Length m e k =
    (_, [], grammar.type_plain grammar.many_end (grammar.base_core (grammar.core_length m)) grammar.many_end)
type_at _ m e k = absurd cc

declarator_at : (j : Terminal) (m : Spot) → starts_declarator j ≡ true → (k : ℕ) → Begun Declarator j m k
declarator_at terminals.Name m e k = (_, [], grammar.declarator grammar.maybe_none m grammar.many_end)
declarator_at terminals.Star m e k = (
  _,
  terminals.Name ∷ [],
  grammar.declarator (grammar.maybe_some (grammar.star m grammar.many_end))
      (spot terminals.Name k) grammar.many_end,
)
declarator_at _ m e k = absurd cc

-- a phrase, and one more token behind it
module _ (s u : Sort) (last : Terminal) (f : Syntax → Spot → Syntax) (rule : (t : Syntax) (x : List Leaf) →
    Tree_of s t x → (c : Spot) → Tree_of u (f t c) (x ++ (tok last c ∷ []))) where
  and_then : (j : Terminal) (m : Spot) (k : ℕ) → Begun s j m k → Begun u j m k
  and_then j m k b =
      let e : (tok j m ∷ leaves_at k b.1) ++ (tok last (spot last (k + length b.1)) ∷ []) ≡ tok j m ∷
      leaves_at k (b.1 ++ (last ∷ [])) =
      ap (λ (l : List Leaf). tok j m ∷ l) (sym (leaves_append k b.1 (last ∷ []))) in (
        f b.0 (spot last (k + length b.1)),
        b.1 ++ (last ∷ []),
        subst (λ l. Tree_of u (f b.0 (spot last (k + length b.1))) l) e
            (rule b.0 (tok j m ∷ leaves_at k b.1) b.2 (spot last (k + length b.1))),
      )

cast_at : (j : Terminal) (m : Spot) → starts_expression j ≡ true → (k : ℕ) → Begun Cast j m k
cast_at j m e k = let b = unary_at j m e k in (b.0, b.1, grammar.cast_unary b.2)

expression_simple : (j : Terminal) (m : Spot) → starts_expression j ≡ true → (k : ℕ) → Begun Simple j m k
expression_simple j m e k = and_then Cast Simple terminals.Semicolon (λ t c. simple_node (more t none) c)
    (λ t x h c. grammar.simple (grammar.maybe_some (expr_of_cast h)) c) j m k (cast_at j m e k)

simple_at : (j : Terminal) (m : Spot) → starts_simple j ≡ true → (k : ℕ) → Begun Simple j m k
simple_at terminals.Semicolon m e k = (_, [], grammar.simple grammar.maybe_none m)
simple_at terminals.Name m e k = expression_simple terminals.Name m refl k
simple_at terminals.Number m e k = expression_simple terminals.Number m refl k
simple_at terminals.Truth m e k = expression_simple terminals.Truth m refl k
simple_at terminals.Open m e k = expression_simple terminals.Open m refl k
simple_at terminals.PlusMinus m e k = expression_simple terminals.PlusMinus m refl k
simple_at terminals.Tilde m e k = expression_simple terminals.Tilde m refl k
simple_at terminals.Ampersand m e k = expression_simple terminals.Ampersand m refl k
simple_at terminals.Star m e k = expression_simple terminals.Star m refl k
simple_at terminals.Step m e k = expression_simple terminals.Step m refl k
simple_at terminals.Sizeof m e k = expression_simple terminals.Sizeof m refl k
simple_at _ m e k = absurd cc

-- the empty statement
nothing : (k : ℕ) → Spells Statement (one (simple_node none (spot terminals.Semicolon k)))
    (tok terminals.Semicolon (spot terminals.Semicolon k) ∷ [])
nothing k = grammar.statement_simple (grammar.simple grammar.maybe_none (spot terminals.Semicolon k))

a_number : (k : ℕ) → Tree_of Expr (word_node forms.NumberNode (spot terminals.Number k))
    (leaves_at k (terminals.Number ∷ []))
a_number k = expr_of_cast (one_number k)

simple_statement : (j : Terminal) (m : Spot) (k : ℕ) → Begun Simple j m k → Begun Statement j m k
simple_statement j m k b = (b.0, b.1, grammar.statement_simple b.2)

statement_at : (j : Terminal) (m : Spot) → starts_statement j ≡ true → (k : ℕ) → Begun Statement j m k
statement_at terminals.Semicolon m e k =
    simple_statement terminals.Semicolon m k (simple_at terminals.Semicolon m refl k)
statement_at terminals.Name m e k = simple_statement terminals.Name m k (expression_simple terminals.Name m refl k)
statement_at terminals.Number m e k =
    simple_statement terminals.Number m k (expression_simple terminals.Number m refl k)
statement_at terminals.Truth m e k = simple_statement terminals.Truth m k (expression_simple terminals.Truth m refl k)
statement_at terminals.Open m e k = simple_statement terminals.Open m k (expression_simple terminals.Open m refl k)
statement_at terminals.PlusMinus m e k =
    simple_statement terminals.PlusMinus m k (expression_simple terminals.PlusMinus m refl k)
statement_at terminals.Tilde m e k = simple_statement terminals.Tilde m k (expression_simple terminals.Tilde m refl k)
statement_at terminals.Ampersand m e k =
    simple_statement terminals.Ampersand m k (expression_simple terminals.Ampersand m refl k)
statement_at terminals.Star m e k = simple_statement terminals.Star m k (expression_simple terminals.Star m refl k)
statement_at terminals.Step m e k = simple_statement terminals.Step m k (expression_simple terminals.Step m refl k)
statement_at terminals.Sizeof m e k =
    simple_statement terminals.Sizeof m k (expression_simple terminals.Sizeof m refl k)
statement_at terminals.OpenBrace m e k = (
  _,
  terminals.CloseBrace ∷ [],
  grammar.statement_block (grammar.block m grammar.many_end (spot terminals.CloseBrace k)),
)
statement_at terminals.If m e k = (
  _,
  terminals.Open ∷ terminals.Number ∷ terminals.Close ∷ terminals.Semicolon ∷ [],
  grammar.if_short m (spot terminals.Open k) (a_number (suc k)) (spot terminals.Close (suc (suc k)))
      (nothing (suc (suc (suc k)))),
)
statement_at terminals.While m e k = (
  _,
  terminals.Open ∷ terminals.Number ∷ terminals.Close ∷ terminals.Semicolon ∷ [],
  grammar.while m (spot terminals.Open k) (a_number (suc k)) (spot terminals.Close (suc (suc k)))
      (nothing (suc (suc (suc k)))),
)
statement_at terminals.Do m e k = (
  _,
  terminals.Semicolon ∷ terminals.While ∷ terminals.Open ∷ terminals.Number ∷ terminals.Close ∷
      terminals.Semicolon ∷ [],
  grammar.do_while m (nothing k) (spot terminals.While (suc k))
      (spot terminals.Open (suc (suc k))) (a_number (suc (suc (suc k))))
      (spot terminals.Close (suc (suc (suc (suc k))))) (spot terminals.Semicolon (suc (suc (suc (suc (suc k)))))),
)
statement_at terminals.For m e k = (
  _,
  terminals.Open ∷ terminals.Semicolon ∷ terminals.Semicolon ∷ terminals.Close ∷ terminals.Semicolon ∷ [],
  grammar.for m (spot terminals.Open k)
      (grammar.start_simple (grammar.simple grammar.maybe_none (spot terminals.Semicolon (suc k)))) grammar.maybe_none
      (spot terminals.Semicolon (suc (suc k))) grammar.maybe_none (spot terminals.Close (suc (suc (suc k))))
      (nothing (suc (suc (suc (suc k))))),
)
statement_at terminals.Switch m e k = (
  _,
  terminals.Open ∷ terminals.Number ∷ terminals.Close ∷ terminals.OpenBrace ∷ terminals.CloseBrace ∷ [],
  grammar.switch m (spot terminals.Open k) (a_number (suc k)) (spot terminals.Close (suc (suc k)))
      (spot terminals.OpenBrace (suc (suc (suc k)))) grammar.many_end
      (spot terminals.CloseBrace (suc (suc (suc (suc k))))),
)
statement_at terminals.Case m e k = (
  _,
  terminals.Number ∷ terminals.Colon ∷ terminals.Semicolon ∷ [],
  grammar.case m (cond_of_cast (one_number k)) (spot terminals.Colon (suc k)) (nothing (suc (suc k))),
)
statement_at terminals.Default m e k =
    (_, terminals.Colon ∷ terminals.Semicolon ∷ [], grammar.default m (spot terminals.Colon k) (nothing (suc k)))
statement_at terminals.Break m e k = (_, terminals.Semicolon ∷ [], grammar.break m (spot terminals.Semicolon k))
statement_at terminals.Continue m e k = (_, terminals.Semicolon ∷ [], grammar.continue m (spot terminals.Semicolon k))
statement_at terminals.Return m e k =
    (_, terminals.Semicolon ∷ [], grammar.return m grammar.maybe_none (spot terminals.Semicolon k))
statement_at _ m e k = absurd cc

-- a type and a declarator, and the end
declared_at : (j : Terminal) (m : Spot) (k : ℕ) → Begun TypeName j m k → Begun Declare j m k
declared_at j m k b =
    let rest : leaves_at k (b.1 ++ (terminals.Name ∷ terminals.Semicolon ∷ [])) ≡ leaves_at k b.1 ++
    leaves_at (k + length b.1) (terminals.Name ∷ terminals.Semicolon ∷ []) =
    leaves_append k b.1 (terminals.Name ∷ terminals.Semicolon ∷ []) in
    let e : (tok j m ∷ leaves_at k b.1) ++ (tok terminals.Name (spot terminals.Name (k + length b.1)) ∷
    tok terminals.Semicolon (spot terminals.Semicolon (suc (k + length b.1))) ∷ []) ≡ tok j m ∷
    leaves_at k (b.1 ++ (terminals.Name ∷ terminals.Semicolon ∷ [])) =
    ap (λ (l : List Leaf). tok j m ∷ l) (sym rest) in (
      declare_node b.0 (declarator_node none (spot terminals.Name (k + length b.1)) [] none) [] none
          (spot terminals.Semicolon (suc (k + length b.1))),
      b.1 ++ (terminals.Name ∷ terminals.Semicolon ∷ []),
      subst (λ l. Tree_of Declare (declare_node b.0 (declarator_node none (spot terminals.Name (k + length b.1)) []
          none) [] none (spot terminals.Semicolon (suc (k + length b.1)))) l) e
          (grammar.declare b.2 (grammar.declarator grammar.maybe_none (spot terminals.Name (k + length b.1))
          grammar.many_end) grammar.many_end (spot terminals.Semicolon (suc (k + length b.1)))),
    )

declare_at : (j : Terminal) (m : Spot) → starts_type j ≡ true → (k : ℕ) → Begun Declare j m k
declare_at j m e k = declared_at j m k (type_at j m e k)

-- where a tree of the sort begins with each of some terminals, having no room for it is right
room_good : (s : Sort) (test : Terminal → Bool) (j : Terminal) → test j ≡ true →
    ((j : Terminal) (m : Spot) → test j ≡ true → (k : ℕ) → Begun s j m k) → Good (no_room test) (Tree_of s)
room_good s test j q at = good_deep test wrong (Tree_of s) (λ i b k. at i.terminal (spot_of i) b k)
    (good_wrong (Tree_of s) (λ k. let b = at j (spot j k) q (suc k) in (b.0, j ∷ b.1, b.2)))

-- what holds of an expression holds of each sort above it
lifted : (s : Sort) → ((t : Syntax) (x : List Leaf) → Spells Cast (one t) x → Spells s (one t) x) →
    Good (no_room starts_expression) (Tree_of s)
lifted s up = weaker (no_room starts_expression) (Tree_of Cast) (Tree_of s) up
    (room_good Cast starts_expression terminals.Number refl cast_at)

is_at : (s : Sort) (k : Terminal) → ((m : Spot) (n : ℕ) → Begun s k m n) → (j : Terminal) (m : Spot) →
    same j k ≡ true → (n : ℕ) → Begun s j m n
is_at s k at j m e n = subst (λ i. Begun s i m n) (sym (same_terminal j k e)) (at m n)

pub all_good : (n : ℕ) → AllGood (readers n)
unfolding readers
all_good zero = record {
  ends = no_room_ends starts_statement;
  space = room_good Space (is terminals.Space) terminals.Space refl
      (is_at Space terminals.Space (λ m n. (_, [], grammar.space m)));
  star = room_good Star (is terminals.Star) terminals.Star refl
      (is_at Star terminals.Star (λ m n. (_, [], grammar.star m grammar.many_end)));
  type' = room_good TypeName starts_type terminals.TypeWord refl type_at;
  declare = room_good Declare starts_type terminals.TypeWord refl declare_at;
  declarator = room_good Declarator starts_declarator terminals.Name refl declarator_at;
  initializers = room_good Initializers (is terminals.OpenBrace) terminals.OpenBrace refl
      (is_at Initializers terminals.OpenBrace (λ m n. (
        _,
        terminals.Number ∷ terminals.CloseBrace ∷ [],
        grammar.initializers m (assign_of_cast (one_number n)) grammar.elements_end
            (spot terminals.CloseBrace (suc n)),
      )));
  block = room_good Block (is terminals.OpenBrace) terminals.OpenBrace refl
      (is_at Block terminals.OpenBrace (λ m n. (
        _,
        terminals.CloseBrace ∷ [],
        grammar.block m grammar.many_end (spot terminals.CloseBrace n),
      )));
  simple = room_good Simple starts_simple terminals.Semicolon refl simple_at;
  statement = room_good Statement starts_statement terminals.Semicolon refl statement_at;
  expr = lifted Expr (λ t x h. expr_of_cast h);
  assign = lifted Assign (λ t x h. assign_of_cast h);
  cond' = lifted Cond (λ t x h. cond_of_cast h);
  level = λ k d. lifted (Level k) (λ t x h. level_of_cast k h);
  cast = lifted Cast (λ t x h. h);
  unary = room_good Unary starts_expression terminals.Number refl unary_at;
}
all_good (suc n) = good_above n (readers n) (all_good n)
