-- Reading from left to right, one token ahead, as a function of the tokens.
use Rattle.std.specs.Prelude.{ℕ, zero, suc, Bool, true, false, not, cond, List, [], ◌∷◌, ◌++◌, length, nat_le}
use Rattle.cl_tree.specs.declared.terminal.Terminal.{Terminal}
use Rattle.cl_tree.specs.declared.terminal.Terminal.TheVariants as terminals
use Rattle.cl_tree.specs.declared.terminal.Leaf.{Leaf}
use Rattle.cl_tree.specs.declared.tree.Form.{Form}
use Rattle.cl_tree.specs.declared.tree.Form.TheVariants as forms
use Rattle.cl_tree.specs.Precedence.{joins, form_of, assigns, prefixes, qualifies}
use Rattle.cl_tree.specs.Syntax.{Syntax, node, Forest, none, more, joined, nesting}
use Rattle.cl_tree.specs.Nodes.{Spot, word_node, alone_node, pair_node, unit_node, function_node, prototype_node}
use Rattle.cl_tree.specs.Nodes.{attribute_node, params_node, param_node, type_node, type_front_node, type_behind_node}
use Rattle.cl_tree.specs.Nodes.{star_node, declare_node, declarator_node, declarator_set_node, list_node, block_node}
use Rattle.cl_tree.specs.Nodes.{simple_node, if_node, if_else_node, while_node, do_node, for_node, switch_node}
use Rattle.cl_tree.specs.Nodes.{case_node, default_node, leave_node, cond_node, cast_node, prefix_node, sizeof_node}
use Rattle.cl_tree.specs.Nodes.{index_node, step_node, selection_node, call_node, paren_node}
use Rattle.cl_read.specs.Starts.{same, starts_expression, starts_simple, starts_statement, starts_type, starts_core}
use Rattle.cl_read.specs.Starts.{starts_declarator, starts_head, postfixes}

-- What reading gives: a value and the tokens behind it, or the place of a fault, as the number of tokens from it on.
pub data Out (A : Type 0) : Type 0 where
  Got : A → List Leaf → Out A
  Wrong : ℕ → Out A
  Deep : ℕ → Out A

abbrev pub Reader : Type 0 → Type 0
Reader A = List Leaf → Out A

abbrev pub after : {A B : Type 0} → Out A → (A → Reader B) → Out B
after (Got a rest) g = g a rest
after (Wrong n) g = Wrong n
after (Deep n) g = Deep n

infixl 10 ◌>>=◌
abbrev pub ◌>>=◌ : {A B : Type 0} → Reader A → (A → Reader B) → Reader B
p >>= g = λ ts. after (p ts) g

abbrev pub done : {A : Type 0} → A → Reader A
done a = λ ts. Got a ts

abbrev pub deep : {A : Type 0} → Reader A
deep = λ ts. Deep (length ts)

abbrev pub wrong : {A : Type 0} → Reader A
wrong = λ ts. Wrong (length ts)

-- whether there is a next token, of a terminal that passes the test
abbrev pub begins : (Terminal → Bool) → List Leaf → Bool
begins test [] = false
begins test (i ∷ ts) = test i.terminal

abbrev pub is : Terminal → Terminal → Bool
is k = λ j. same j k

abbrev pub choose : {A : Type 0} → (Terminal → Bool) → Reader A → Reader A → Reader A
choose test p q = λ ts. cond (begins test ts) (p ts) (q ts)

-- where the fact holds, and else too deep
abbrev pub within : {A : Type 0} → Bool → Reader A → Reader A
within b p = λ ts. cond b (p ts) (Deep (length ts))

abbrev pub eat_one : (Terminal → Bool) → Leaf → List Leaf → Out Spot
eat_one test i ts =
    cond (test i.terminal) (Got (record { number = i.number; word = i.word }) ts) (Wrong (suc (length ts)))

-- a token that passes the test
abbrev pub eat_in : (Terminal → Bool) → Reader Spot
eat_in test [] = Wrong 0
eat_in test (i ∷ ts) = eat_one test i ts

abbrev pub eat : Terminal → Reader Spot
eat k = eat_in (is k)

-- parts nested to the left, as long as the test passes, and no more than the given number of times; the nesting of
-- what there is must stay within the room
unfoldable pub chain : ℕ → (Terminal → Bool) → (Syntax → Reader Syntax) → ℕ → Syntax → Reader Syntax
chain room test step zero l = choose test deep (done l)
chain room test step (suc n) l =
    choose test (within (nat_le (nesting l) room) (step l >>= chain room test step n)) (done l)

-- a list's own tokens, and its trees
pub record Listing : Type 0 where
  pub own : List Spot
  pub parts : Forest

abbrev pub empty : Listing
empty = record { own = []; parts = none }

abbrev pub appended : Listing → Listing → Listing
appended a b = record { own = a.own ++ b.own; parts = joined a.parts b.parts }

-- Lists: as many members as the test finds begun, up to one that says that it is the last. The number bounds how
-- many there can be.
unfoldable pub list_of : (Terminal → Bool) → Reader (Bool × Listing) → ℕ → Reader Listing
list_of test p zero = choose test deep (done empty)
list_of test p (suc n) =
    choose test (p >>= λ a. cond a.0 (list_of test p n >>= λ l. done (appended a.1 l)) (done a.1)) (done empty)

unfoldable pub all_of : (Terminal → Bool) → Reader (Bool × Listing) → Reader Listing
all_of test p ts = list_of test p (length ts) ts

-- members of lists: a tree, and a tree behind a comma
abbrev pub each : Reader Syntax → Reader (Bool × Listing)
each p = p >>= λ t. done (true, record { own = []; parts = more t none })

abbrev pub behind_comma : Reader Syntax → Reader (Bool × Listing)
behind_comma p = eat terminals.Comma >>= λ k. p >>= λ t. done (true, record { own = k ∷ []; parts = more t none })

-- a tree where one begins, and a tree unless something else begins
abbrev pub if_begun : (Terminal → Bool) → Reader Syntax → Reader Forest
if_begun test p = choose test (p >>= λ t. done (more t none)) (done none)

abbrev pub unless : (Terminal → Bool) → Reader Syntax → Reader Forest
unless test p = choose test (done none) (p >>= λ t. done (more t none))

-- One reader for each nonterminal that can be a part, for trees that nest no deeper than some number.
pub record Readers : Type 0 where
  pub space : Reader Syntax
  pub star : Reader Syntax
  pub type' : Reader Syntax
  pub declare : Reader Syntax
  pub declarator : Reader Syntax
  pub initializers : Reader Syntax
  pub block : Reader Syntax
  pub simple : Reader Syntax
  pub statement : Reader Syntax
  pub expr : Reader Syntax
  pub assign : Reader Syntax
  pub cond' : Reader Syntax
  pub level : ℕ → Reader Syntax
  pub cast : Reader Syntax
  pub unary : Reader Syntax

-- whether a tree of the sort cond is one of the sort unary
abbrev pub is_unary : Syntax → Bool
is_unary (node forms.UnaryNode w f l ps) = true
is_unary (node forms.PostfixNode w f l ps) = true
is_unary (node forms.CallNode w f l ps) = true
is_unary (node forms.ParenNode w f l ps) = true
is_unary (node forms.VariableNode w f l ps) = true
is_unary (node forms.TruthNode w f l ps) = true
is_unary (node forms.NumberNode w f l ps) = true
is_unary (node _ w f l ps) = false

-- ---- types

unfoldable pub qualifier_of : Bool → Reader (Bool × Listing)
qualifier_of b = eat_in (qualifies b) >>= λ m. done (true, record { own = m ∷ []; parts = none })

abbrev pub qualifiers : Bool → Reader Listing
qualifiers b = all_of (qualifies b) (qualifier_of b)

unfoldable pub core_of : Reader (List Spot)
core_of = choose (is terminals.Char) (eat terminals.Char >>= λ m. done (m ∷ []))
    (choose (is terminals.Int) (eat terminals.Int >>= λ m. done (m ∷ []))
    (eat terminals.Length >>= λ m. choose (is terminals.Int) (eat terminals.Int >>= λ i. done (m ∷ i ∷ []))
    (done (m ∷ []))))

unfoldable pub base_of : Reader (List Spot)
base_of = choose (is terminals.TypeWord) (eat terminals.TypeWord >>= λ m. done (m ∷ [])) (choose (is terminals.Sign)
    (eat terminals.Sign >>= λ m. choose starts_core (core_of >>= λ a. done (m ∷ a)) (done (m ∷ []))) core_of)

unfoldable pub space_of : Reader Syntax
space_of = eat terminals.Space >>= λ m. done (word_node forms.SpaceNode m)

unfoldable pub star_of : Reader Syntax
star_of = eat terminals.Star >>= λ o. qualifiers true >>= λ a. done (star_node o a.own)

-- The readers of trees with one level more, from the readers of their parts.
module _ (low : Readers) where
  -- behind the words before a space word, and behind those before a base
  unfoldable pub front_of : List Spot → Reader Syntax
  front_of a = low.space >>= λ s. qualifiers false >>= λ b. base_of >>= λ d. qualifiers false >>= λ c.
      done (type_front_node a s b.own d c.own)

  unfoldable pub behind_of : List Spot → Reader Syntax
  behind_of a = base_of >>= λ d. qualifiers false >>= λ b. choose (is terminals.Space) (low.space >>= λ s.
      qualifiers false >>= λ c. done (type_behind_node a d b.own s c.own)) (done (type_node (a ++ (d ++ b.own))))

  unfoldable pub type_of : Reader Syntax
  type_of = qualifiers false >>= λ a. choose (is terminals.Space) (front_of a.own) (behind_of a.own)

  -- ---- declarations

  unfoldable pub dimension_of : Reader (Bool × Listing)
  dimension_of = eat terminals.OpenBracket >>= λ o. unless (is terminals.CloseBracket) low.cond' >>= λ ts.
      eat terminals.CloseBracket >>= λ c. done (true, record { own = o ∷ c ∷ []; parts = ts })

  unfoldable pub init_of : Reader Syntax
  init_of = choose (is terminals.OpenBrace) low.initializers low.assign

  -- a declarator, behind its name
  unfoldable pub declared : Forest → Spot → Reader Syntax
  declared ss m = all_of (is terminals.OpenBracket) dimension_of >>= λ l.
      choose (is terminals.Equals) (eat terminals.Equals >>= λ e. init_of >>= λ i.
      done (declarator_set_node ss m l.own l.parts e i)) (done (declarator_node ss m l.own l.parts))

  unfoldable pub declarator_of : Reader Syntax
  declarator_of = if_begun (is terminals.Star) low.star >>= λ ss. eat terminals.Name >>= λ m. declared ss m

  -- a declaration, behind its first declarator
  unfoldable pub declare_rest : Syntax → Syntax → Reader Syntax
  declare_rest t d = all_of (is terminals.Comma) (behind_comma low.declarator) >>= λ l. eat terminals.Semicolon >>=
      λ s. done (declare_node t d l.own l.parts s)

  unfoldable pub declare_of : Reader Syntax
  declare_of = low.type' >>= λ t. low.declarator >>= λ d. declare_rest t d

  unfoldable pub element_of : Reader (Bool × Listing)
  element_of = eat terminals.Comma >>= λ k. choose (is terminals.CloseBrace) (done (
    false,
    record { own = k ∷ []; parts = none },
  )) (low.assign >>= λ t. done (
    true,
    record { own = k ∷ []; parts = more t none },
  ))

  unfoldable pub initializers_of : Reader Syntax
  initializers_of = eat terminals.OpenBrace >>= λ o. low.assign >>= λ t. all_of (is terminals.Comma) element_of >>=
      λ l. eat terminals.CloseBrace >>= λ c. done (list_node o t l.own l.parts c)

  -- ---- statements

  unfoldable pub line_of : Reader Syntax
  line_of = choose starts_type low.declare low.statement

  unfoldable pub block_of : Reader Syntax
  block_of = eat terminals.OpenBrace >>= λ o. all_of (λ k. not (same k terminals.CloseBrace)) (each line_of) >>= λ l.
      eat terminals.CloseBrace >>= λ c. done (block_node o l.parts c)

  unfoldable pub simple_of : Reader Syntax
  simple_of =
      unless (is terminals.Semicolon) low.expr >>= λ ts. eat terminals.Semicolon >>= λ s. done (simple_node ts s)

  unfoldable pub if_of : Reader Syntax
  if_of = eat terminals.If >>= λ i. eat terminals.Open >>= λ o. low.expr >>= λ e. eat terminals.Close >>= λ c.
      low.statement >>= λ s. choose (is terminals.Else) (eat terminals.Else >>= λ k. low.statement >>= λ u.
      done (if_else_node i o e c s k u)) (done (if_node i o e c s))

  unfoldable pub while_of : Reader Syntax
  while_of = eat terminals.While >>= λ w. eat terminals.Open >>= λ o. low.expr >>= λ e. eat terminals.Close >>= λ c.
      low.statement >>= λ s. done (while_node w o e c s)

  unfoldable pub do_of : Reader Syntax
  do_of = eat terminals.Do >>= λ d. low.statement >>= λ s. eat terminals.While >>= λ w. eat terminals.Open >>= λ o.
      low.expr >>= λ e. eat terminals.Close >>= λ c. eat terminals.Semicolon >>= λ m. done (do_node d s w o e c m)

  unfoldable pub start_of : Reader Syntax
  start_of = choose starts_type low.declare low.simple

  unfoldable pub for_of : Reader Syntax
  for_of = eat terminals.For >>= λ f. eat terminals.Open >>= λ o. start_of >>= λ d.
      unless (is terminals.Semicolon) low.expr >>= λ ts. eat terminals.Semicolon >>= λ s.
      unless (is terminals.Close) low.expr >>= λ us. eat terminals.Close >>= λ c. low.statement >>= λ b.
      done (for_node f o d ts s us c b)

  unfoldable pub switch_of : Reader Syntax
  switch_of = eat terminals.Switch >>= λ w. eat terminals.Open >>= λ o. low.expr >>= λ e. eat terminals.Close >>= λ c.
      eat terminals.OpenBrace >>= λ b. all_of (λ k. not (same k terminals.CloseBrace)) (each low.statement) >>= λ l.
      eat terminals.CloseBrace >>= λ d. done (switch_node w o e c b l.parts d)

  unfoldable pub case_of : Reader Syntax
  case_of = eat terminals.Case >>= λ w. low.cond' >>= λ e. eat terminals.Colon >>= λ c. low.statement >>= λ s.
      done (case_node w e c s)

  unfoldable pub default_of : Reader Syntax
  default_of =
      eat terminals.Default >>= λ w. eat terminals.Colon >>= λ c. low.statement >>= λ s. done (default_node w c s)

  unfoldable pub leave_of : Terminal → Form → Reader Syntax
  leave_of k f = eat k >>= λ w. eat terminals.Semicolon >>= λ s. done (leave_node f w none s)

  unfoldable pub return_of : Reader Syntax
  return_of = eat terminals.Return >>= λ w. unless (is terminals.Semicolon) low.expr >>= λ ts.
      eat terminals.Semicolon >>= λ s. done (leave_node forms.ReturnNode w ts s)

  unfoldable pub leaving : Reader Syntax
  leaving = choose (is terminals.Break) (leave_of terminals.Break forms.BreakNode)
      (choose (is terminals.Continue) (leave_of terminals.Continue forms.ContinueNode)
      (choose (is terminals.Return) return_of simple_of))

  unfoldable pub labelled : Reader Syntax
  labelled = choose (is terminals.Switch) switch_of
      (choose (is terminals.Case) case_of (choose (is terminals.Default) default_of leaving))

  unfoldable pub statement_of : Reader Syntax
  statement_of = choose (is terminals.OpenBrace) block_of
      (choose (is terminals.If) if_of
      (choose (is terminals.While) while_of
      (choose (is terminals.Do) do_of (choose (is terminals.For) for_of labelled))))

-- ---- expressions

-- behind an expression
unfoldable pub selection_of : Syntax → Reader Syntax
selection_of l = eat terminals.Point >>= λ d. eat terminals.Name >>= λ m. done (selection_node l d m)

module _ (n : ℕ) (low : Readers) where
  unfoldable pub call_of : Spot → Spot → Reader Syntax
  call_of m o = choose (is terminals.Close) (eat terminals.Close >>= λ c. done (call_node m o [] none c))
      (low.assign >>= λ t. all_of (is terminals.Comma) (behind_comma low.assign) >>= λ l. eat terminals.Close >>= λ c.
      done (call_node m o l.own (more t l.parts) c))

  unfoldable pub primary_of : Reader Syntax
  primary_of = choose (is terminals.Name) (eat terminals.Name >>= λ m.
      choose (is terminals.Open) (eat terminals.Open >>= λ o. call_of m o) (done (word_node forms.VariableNode m)))
      (choose (is terminals.Truth) (eat terminals.Truth >>= λ m. done (word_node forms.TruthNode m))
      (eat terminals.Number >>= λ m. done (word_node forms.NumberNode m)))

  unfoldable pub postfix_step : Syntax → Reader Syntax
  postfix_step l = choose (is terminals.OpenBracket) (eat terminals.OpenBracket >>= λ o. low.expr >>= λ e.
      eat terminals.CloseBracket >>= λ c. done (index_node l o e c)) (choose (is terminals.Point) (selection_of l)
      (eat terminals.Step >>= λ m. done (step_node l m)))

  unfoldable pub postfixed : Syntax → Reader Syntax
  postfixed l = chain n postfixes postfix_step n l

  -- behind an opening parenthesis: an expression, or a type as well
  unfoldable pub paren_of : Spot → Reader Syntax
  paren_of o = low.expr >>= λ e. eat terminals.Close >>= λ c. postfixed (paren_node o e c)

  unfoldable pub opened : Spot → Reader Syntax
  opened o = choose starts_type (low.type' >>= λ t. eat terminals.Close >>= λ c. low.cast >>= λ e.
      done (cast_node o t c e)) (paren_of o)

  unfoldable pub sizeof_of : Reader Syntax
  sizeof_of = eat terminals.Sizeof >>= λ w. eat terminals.Open >>= λ o. low.type' >>= λ t. eat terminals.Close >>=
      λ c. done (sizeof_node w o t c)

  -- a unary that begins with no parenthesis
  unfoldable pub operand_of : Reader Syntax
  operand_of = choose (is terminals.Step) (eat terminals.Step >>= λ m. low.unary >>= λ t. done (prefix_node m t))
      (choose prefixes (eat_in prefixes >>= λ m. low.cast >>= λ t. done (prefix_node m t))
      (choose (is terminals.Sizeof) sizeof_of (primary_of >>= λ l. postfixed l)))

  unfoldable pub unary_of : Reader Syntax
  unary_of = choose (is terminals.Open) (eat terminals.Open >>= λ o. paren_of o) operand_of

  unfoldable pub cast_of : Reader Syntax
  cast_of = choose (is terminals.Open) (eat terminals.Open >>= λ o. opened o) operand_of

  unfoldable pub level_step : ℕ → Syntax → Reader Syntax
  level_step k l = eat_in (joins k) >>= λ m. low.level k >>= λ r. done (pair_node (form_of k) l m r)

  unfoldable pub level_of : ℕ → Reader Syntax
  level_of zero = cast_of
  level_of (suc k) = level_of k >>= λ l. chain n (joins k) (level_step k) n l

  unfoldable pub cond_of : Reader Syntax
  cond_of = level_of 10 >>= λ t. choose (is terminals.Question) (eat terminals.Question >>= λ q. low.expr >>= λ a.
      eat terminals.Colon >>= λ c. low.cond' >>= λ b. done (cond_node t q a c b)) (done t)

  unfoldable pub assign_of : Reader Syntax
  assign_of = cond_of >>= λ l. cond (is_unary l) (choose assigns (eat_in assigns >>= λ m. low.assign >>= λ r.
      done (pair_node forms.AssignNode l m r)) (done l)) (done l)

  unfoldable pub expr_step : Syntax → Reader Syntax
  expr_step l = eat terminals.Comma >>= λ m. low.assign >>= λ r. done (pair_node forms.ExprNode l m r)

  unfoldable pub expr_of : Reader Syntax
  expr_of = assign_of >>= λ l. chain n (is terminals.Comma) expr_step n l

-- no room for a tree: too deep where one begins, and else wrong
abbrev pub no_room : {A : Type 0} → (Terminal → Bool) → Reader A
no_room test = choose test deep wrong

-- the readers of trees with one level more
abbrev pub next_readers : ℕ → Readers → Readers
next_readers n low = record {
  space = space_of;
  star = star_of;
  type' = type_of low;
  declare = declare_of low;
  declarator = declarator_of low;
  initializers = initializers_of low;
  block = block_of low;
  simple = simple_of low;
  statement = statement_of low;
  expr = expr_of n low;
  assign = assign_of n low;
  cond' = cond_of n low;
  level = level_of n low;
  cast = cast_of n low;
  unary = unary_of n low;
}

abbrev pub no_readers : Readers
no_readers = record {
  space = no_room (is terminals.Space);
  star = no_room (is terminals.Star);
  type' = no_room starts_type;
  declare = no_room starts_type;
  declarator = no_room starts_declarator;
  initializers = no_room (is terminals.OpenBrace);
  block = no_room (is terminals.OpenBrace);
  simple = no_room starts_simple;
  statement = no_room starts_statement;
  expr = no_room starts_expression;
  assign = no_room starts_expression;
  cond' = no_room starts_expression;
  level = λ k. no_room starts_expression;
  cast = no_room starts_expression;
  unary = no_room starts_expression;
}

-- the readers of trees that nest no deeper than the number
unfoldable pub readers : ℕ → Readers
readers zero = no_readers
readers (suc n) = next_readers n (readers n)

-- ---- the unit: the readers with less room for what lies deeper in an item

module _ (one two three : Readers) where
  unfoldable pub attribute_of : Reader Syntax
  attribute_of = eat terminals.Attribute >>= λ w. eat terminals.Open >>= λ o. eat terminals.Open >>= λ p.
      eat terminals.AttributeName >>= λ n. eat terminals.Open >>= λ q. one.cond' >>= λ a. eat terminals.Comma >>= λ j.
      one.cond' >>= λ b. eat terminals.Comma >>= λ k. one.cond' >>= λ c. eat terminals.Close >>= λ e.
      eat terminals.Close >>= λ f. eat terminals.Close >>= λ g. done (attribute_node w o p n q a j b k c e f g)

  unfoldable pub head_of : Reader Syntax
  head_of = choose (is terminals.HeadWord) (eat terminals.HeadWord >>= λ m. done (word_node forms.HeadNode m))
      (attribute_of >>= λ t. done (alone_node forms.HeadNode t))

  unfoldable pub param_of : Reader Syntax
  param_of = one.type' >>= λ t. if_begun (is terminals.Star) one.star >>= λ ss. eat terminals.Name >>= λ m.
      done (param_node t ss m)

  unfoldable pub params_of : Reader Listing
  params_of = choose (is terminals.Close) (done empty)
      (choose (is terminals.Void) (eat terminals.Void >>= λ m. done (record { own = m ∷ []; parts = none }))
      (param_of >>= λ t. all_of (is terminals.Comma) (behind_comma param_of) >>= λ l. done (record {
        own = l.own;
        parts = more t l.parts;
      })))

  -- a function or a prototype, behind the parenthesis that opens its parameters, and behind its result
  unfoldable pub callable : Forest → Syntax → Spot → Spot → Reader Syntax
  callable heads r m o = params_of >>= λ ps. eat terminals.Close >>= λ c. choose (is terminals.Semicolon)
      (eat terminals.Semicolon >>= λ s. done (prototype_node heads r m o (params_node ps.own ps.parts c) c s))
      (three.block >>= λ b. done (function_node heads r m o (params_node ps.own ps.parts c) c b))

  unfoldable pub named : Forest → Syntax → Reader Syntax
  named heads r = eat terminals.Name >>= λ m. eat terminals.Open >>= λ o. callable heads r m o

  unfoldable pub result_of : Reader Syntax
  result_of = choose (is terminals.Void) (eat terminals.Void >>= λ m. done (word_node forms.ResultNode m))
      (two.type' >>= λ t. done (alone_node forms.ResultNode t))

  -- an item without heads, behind its type
  unfoldable pub typed : Syntax → Reader Syntax
  typed t = choose (is terminals.Star) (three.declarator >>= λ d. declare_rest three t d)
      (eat terminals.Name >>= λ m. choose (is terminals.Open) (eat terminals.Open >>= λ o.
      callable none (alone_node forms.ResultNode t) m o) (declared two none m >>= λ d. declare_rest three t d))

  unfoldable pub headed : Reader Syntax
  headed = all_of starts_head (each head_of) >>= λ hs. result_of >>= λ r. named hs.parts r

  unfoldable pub item_of : Reader Syntax
  item_of = choose starts_head headed
      (choose (is terminals.Void) (eat terminals.Void >>= λ m. named none (word_node forms.ResultNode m))
      (two.type' >>= λ t. typed t))

-- all of the tokens, as a unit that nests no deeper than the number and five
unfoldable pub unit_of : ℕ → Reader Syntax
unit_of n = all_of (λ j. true)
    (each (item_of (readers (suc n)) (readers (suc (suc n))) (readers (suc (suc (suc n)))))) >>= λ l.
    done (unit_node l.parts)
