-- The grammar: which lists of tokens spell which trees (OpenCL 1.2, chapter 6; C99, sections 6.5 to 6.9).
use Rattle.std.specs.Prelude.{◌≡◌, ℕ, zero, suc, Bool, true, false, ◌&&◌, if◌then◌else◌, List, [], ◌∷◌, ◌++◌}
use Rattle.cl_token.specs.declared.token.Token.{Token}
use Rattle.cl_tree.specs.declared.terminal.Terminal.{Terminal}
use Rattle.cl_tree.specs.declared.terminal.Terminal.TheVariants as terminals
use Rattle.cl_tree.specs.declared.terminal.Leaf.{Leaf}
use Rattle.cl_tree.specs.declared.tree.Form.TheVariants as forms
use Rattle.cl_tree.specs.Leaves.{leaves_of}
use Rattle.cl_tree.specs.Precedence.{joins, form_of, assigns, prefixes, qualifies}
use Rattle.cl_tree.specs.Syntax.{Syntax, node, Forest, none, more, joined}
use Rattle.cl_tree.specs.Nodes.{Spot, tok, word_node, alone_node, pair_node, unit_node, function_node, prototype_node}
use Rattle.cl_tree.specs.Nodes.{attribute_node, params_node, param_node, type_node, type_front_node, type_behind_node}
use Rattle.cl_tree.specs.Nodes.{star_node, declare_node, declarator_node, declarator_set_node, list_node, block_node}
use Rattle.cl_tree.specs.Nodes.{simple_node, if_node, if_else_node, while_node, do_node, for_node, switch_node}
use Rattle.cl_tree.specs.Nodes.{case_node, default_node, leave_node, cond_node, cast_node, prefix_node, sizeof_node}
use Rattle.cl_tree.specs.Nodes.{index_node, step_node, selection_node, call_node, paren_node}

-- whether there are three trees
abbrev pub are_three : Forest → Bool
are_three (more a (more b (more c none))) = true
are_three _ = false

abbrev pub is_empty : Forest → Bool
is_empty none = true
is_empty (more t ts) = false

-- Whether an else behind this statement cannot belong to an if in it.
abbrev mutual
  pub closed : Syntax → Bool
  closed (node forms.IfNode word first last parts) = are_three parts && closed_last parts
  closed (node forms.WhileNode word first last parts) = closed_last parts
  closed (node forms.ForNode word first last parts) = closed_last parts
  closed (node forms.CaseNode word first last parts) = closed_last parts
  closed (node forms.DefaultNode word first last parts) = closed_last parts
  closed (node _ word first last parts) = true

  pub closed_last : Forest → Bool
  closed_last none = true
  closed_last (more t ts) = if is_empty ts then closed t else closed_last ts

-- What tokens can spell: the nonterminals, and lists and options of them.
pub data Sort : Type 0 where
  Source Item Head Attribute Result Params Param TypeName Base Core Star Declare Declarator Dimension Init
      Initializers Elements Block Line Start Simple Statement Expr Assign Cond Cast Unary Postfix Primary : Sort
  -- the operators of the levels below that number, from `*` to `||`
  Level : ℕ → Sort
  -- a word behind a star, or else around a base type
  Qualifier : Bool → Sort
  Maybe Many Just Comma : Sort → Sort
  Space : Sort

-- A nonterminal stands for one tree, or for a list of trees with the tokens between them.
pub data Value : Type 0 where
  one : Syntax → Value
  list : List Spot → Forest → Value

-- The tokens spell the value as that nonterminal: one case for each production.
pub data Spells : Sort → Value → List Leaf → Type 0 where
  -- [ s ], { s } and { "," s }
  maybe_none : {s : Sort} → Spells (Maybe s) (list [] none) []
  maybe_some : {s : Sort} {t : Syntax} {x : List Leaf} → Spells s (one t) x → Spells (Maybe s) (list [] (more t none)) x
  many_end : {s : Sort} → Spells (Many s) (list [] none) []
  many_more : {s : Sort} {a : List Spot} {ts : Forest} {x : List Leaf} → Spells s (list a ts) x →
      {b : List Spot} {us : Forest} {y : List Leaf} → Spells (Many s) (list b us) y →
      Spells (Many s) (list (a ++ b) (joined ts us)) (x ++ y)
  just : {s : Sort} {t : Syntax} {x : List Leaf} → Spells s (one t) x → Spells (Just s) (list [] (more t none)) x
  comma : {s : Sort} (k : Spot) {t : Syntax} {x : List Leaf} → Spells s (one t) x →
      Spells (Comma s) (list (k ∷ []) (more t none)) (tok terminals.Comma k ∷ x)
  -- unit = { item }
  unit : {a : List Spot} {ts : Forest} {x : List Leaf} → Spells (Many (Just Item)) (list a ts) x →
      Spells Source (one (unit_node ts)) x
  -- item = function | prototype | declare
  item_declare : {t : Syntax} {x : List Leaf} → Spells Declare (one t) x → Spells Item (one t) x
  -- function = { head } result name "(" params ")" block
  function : {a : List Spot} {heads : Forest} {x : List Leaf} → Spells (Many (Just Head)) (list a heads) x →
      {r : Syntax} {y : List Leaf} → Spells Result (one r) y → (m o : Spot) →
      {own : List Spot} {ts : Forest} {z : List Leaf} → Spells Params (list own ts) z → (c : Spot) →
      {b : Syntax} {w : List Leaf} → Spells Block (one b) w
      → Spells Item (one (function_node heads r m o (params_node own ts c) c b))
      (x ++ (y ++ (tok terminals.Name m ∷ tok terminals.Open o ∷ (z ++ (tok terminals.Close c ∷ w)))))
  -- prototype = { head } result name "(" params ")" ";"
  prototype : {a : List Spot} {heads : Forest} {x : List Leaf} → Spells (Many (Just Head)) (list a heads) x →
      {r : Syntax} {y : List Leaf} → Spells Result (one r) y → (m o : Spot) →
      {own : List Spot} {ts : Forest} {z : List Leaf} → Spells Params (list own ts) z → (c s : Spot)
      → Spells Item (one (prototype_node heads r m o (params_node own ts c) c s))
      (x ++ (y ++ (tok terminals.Name m ∷ tok terminals.Open o ∷
      (z ++ (tok terminals.Close c ∷ tok terminals.Semicolon s ∷ [])))))
  -- head = "__kernel" | "kernel" | "inline" | "static" | attribute
  head_word : (m : Spot) → Spells Head (one (word_node forms.HeadNode m)) (tok terminals.HeadWord m ∷ [])
  head_attribute : {t : Syntax} {x : List Leaf} → Spells Attribute (one t) x →
      Spells Head (one (alone_node forms.HeadNode t)) x
  -- attribute = "__attribute__" "(" "(" attr "(" cond "," cond "," cond ")" ")" ")"
  attribute : (w o p n q : Spot) {a : Syntax} {x : List Leaf} → Spells Cond (one a) x →
      (j : Spot) {b : Syntax} {y : List Leaf} → Spells Cond (one b) y → (k : Spot) {c : Syntax} {z : List Leaf} →
      Spells Cond (one c) z → (e f g : Spot)
      → Spells Attribute (one (attribute_node w o p n q a j b k c e f g)) (tok terminals.Attribute w ∷
      tok terminals.Open o ∷ tok terminals.Open p ∷ tok terminals.AttributeName n ∷ tok terminals.Open q ∷
      (x ++ (tok terminals.Comma j ∷
      (y ++ (tok terminals.Comma k ∷
      (z ++ (tok terminals.Close e ∷ tok terminals.Close f ∷ tok terminals.Close g ∷ [])))))))
  -- result = "void" | type
  result_void : (m : Spot) → Spells Result (one (word_node forms.ResultNode m)) (tok terminals.Void m ∷ [])
  result : {t : Syntax} {x : List Leaf} → Spells TypeName (one t) x →
      Spells Result (one (alone_node forms.ResultNode t)) x
  -- params = [ "void" | param { "," param } ]
  params_none : Spells Params (list [] none) []
  params_void : (m : Spot) → Spells Params (list (m ∷ []) none) (tok terminals.Void m ∷ [])
  params : {t : Syntax} {x : List Leaf} → Spells Param (one t) x → {a : List Spot} {ts : Forest} {y : List Leaf} →
      Spells (Many (Comma Param)) (list a ts) y → Spells Params (list a (more t ts)) (x ++ y)
  -- param = type [ star ] name
  param : {t : Syntax} {x : List Leaf} → Spells TypeName (one t) x → {ss : Forest} {y : List Leaf} →
      Spells (Maybe Star) (list [] ss) y → (m : Spot) →
      Spells Param (one (param_node t ss m)) (x ++ (y ++ (tok terminals.Name m ∷ [])))
  -- type = { qualifier } base { qualifier }, with no space word, with one before its base or with one behind it
  type_plain : {a : List Spot} {f : Forest} {x : List Leaf} → Spells (Many (Qualifier false)) (list a f) x →
      {d : List Spot} {y : List Leaf} → Spells Base (list d none) y → {c : List Spot} {h : Forest} {z : List Leaf} →
      Spells (Many (Qualifier false)) (list c h) z → Spells TypeName (one (type_node (a ++ (d ++ c)))) (x ++ (y ++ z))
  type_front : {a : List Spot} {f : Forest} {x : List Leaf} → Spells (Many (Qualifier false)) (list a f) x →
      {s : Syntax} {u : List Leaf} → Spells Space (one s) u → {b : List Spot} {g : Forest} {v : List Leaf} →
      Spells (Many (Qualifier false)) (list b g) v → {d : List Spot} {y : List Leaf} → Spells Base (list d none) y →
      {c : List Spot} {h : Forest} {z : List Leaf} → Spells (Many (Qualifier false)) (list c h) z
      → Spells TypeName (one (type_front_node a s b d c)) (x ++ (u ++ (v ++ (y ++ z))))
  type_behind : {a : List Spot} {f : Forest} {x : List Leaf} → Spells (Many (Qualifier false)) (list a f) x →
      {d : List Spot} {y : List Leaf} → Spells Base (list d none) y → {b : List Spot} {g : Forest} {v : List Leaf} →
      Spells (Many (Qualifier false)) (list b g) v → {s : Syntax} {u : List Leaf} → Spells Space (one s) u →
      {c : List Spot} {h : Forest} {z : List Leaf} → Spells (Many (Qualifier false)) (list c h) z
      → Spells TypeName (one (type_behind_node a d b s c)) (x ++ (y ++ (v ++ (u ++ z))))
  qualifier : {behind_star : Bool} (j : Terminal) (m : Spot) → qualifies behind_star j ≡ true →
      Spells (Qualifier behind_star) (list (m ∷ []) none) (tok j m ∷ [])
  -- space = "__global" | .. | "private"
  space : (m : Spot) → Spells Space (one (word_node forms.SpaceNode m)) (tok terminals.Space m ∷ [])
  -- base: a word that is one, or char, int, short, short int, long or long int with a sign or without, or a sign alone
  base_word : (m : Spot) → Spells Base (list (m ∷ []) none) (tok terminals.TypeWord m ∷ [])
  base_sign : (m : Spot) → Spells Base (list (m ∷ []) none) (tok terminals.Sign m ∷ [])
  base_core : {a : List Spot} {x : List Leaf} → Spells Core (list a none) x → Spells Base (list a none) x
  base_sign_core : (m : Spot) {a : List Spot} {x : List Leaf} → Spells Core (list a none) x →
      Spells Base (list (m ∷ a) none) (tok terminals.Sign m ∷ x)
  core_char : (m : Spot) → Spells Core (list (m ∷ []) none) (tok terminals.Char m ∷ [])
  core_int : (m : Spot) → Spells Core (list (m ∷ []) none) (tok terminals.Int m ∷ [])
  core_length : (m : Spot) → Spells Core (list (m ∷ []) none) (tok terminals.Length m ∷ [])
  core_length_int : (m i : Spot) →
      Spells Core (list (m ∷ i ∷ []) none) (tok terminals.Length m ∷ tok terminals.Int i ∷ [])
  -- star = "*" { "const" | "restrict" | "__restrict" | "volatile" }
  star : (o : Spot) {a : List Spot} {f : Forest} {x : List Leaf} → Spells (Many (Qualifier true)) (list a f) x →
      Spells Star (one (star_node o a)) (tok terminals.Star o ∷ x)
  -- declare = type declarator { "," declarator } ";"
  declare : {t : Syntax} {x : List Leaf} → Spells TypeName (one t) x → {d : Syntax} {y : List Leaf} →
      Spells Declarator (one d) y → {a : List Spot} {ds : Forest} {z : List Leaf} →
      Spells (Many (Comma Declarator)) (list a ds) z → (s : Spot) →
      Spells Declare (one (declare_node t d a ds s)) (x ++ (y ++ (z ++ (tok terminals.Semicolon s ∷ []))))
  -- declarator = [ star ] name { "[" [ cond ] "]" } [ "=" init ]
  declarator : {ss : Forest} {x : List Leaf} → Spells (Maybe Star) (list [] ss) x → (m : Spot) →
      {a : List Spot} {ds : Forest} {y : List Leaf} → Spells (Many Dimension) (list a ds) y →
      Spells Declarator (one (declarator_node ss m a ds)) (x ++ (tok terminals.Name m ∷ y))
  declarator_set : {ss : Forest} {x : List Leaf} → Spells (Maybe Star) (list [] ss) x → (m : Spot) →
      {a : List Spot} {ds : Forest} {y : List Leaf} → Spells (Many Dimension) (list a ds) y → (e : Spot) →
      {i : Syntax} {z : List Leaf} → Spells Init (one i) z →
      Spells Declarator (one (declarator_set_node ss m a ds e i))
      (x ++ (tok terminals.Name m ∷ (y ++ (tok terminals.Equals e ∷ z))))
  dimension : (o : Spot) {ts : Forest} {x : List Leaf} → Spells (Maybe Cond) (list [] ts) x → (c : Spot) →
      Spells Dimension (list (o ∷ c ∷ []) ts) (tok terminals.OpenBracket o ∷ (x ++ (tok terminals.CloseBracket c ∷ [])))
  -- init = assign | list
  init_assign : {t : Syntax} {x : List Leaf} → Spells Assign (one t) x → Spells Init (one t) x
  init_list : {t : Syntax} {x : List Leaf} → Spells Initializers (one t) x → Spells Init (one t) x
  -- list = "{" assign { "," assign } [ "," ] "}"
  initializers : (o : Spot) {t : Syntax} {x : List Leaf} → Spells Assign (one t) x →
      {a : List Spot} {ts : Forest} {y : List Leaf} → Spells Elements (list a ts) y → (c : Spot) →
      Spells Initializers (one (list_node o t a ts c)) (tok terminals.OpenBrace o ∷
      (x ++ (y ++ (tok terminals.CloseBrace c ∷ []))))
  elements_end : Spells Elements (list [] none) []
  elements_comma : (k : Spot) → Spells Elements (list (k ∷ []) none) (tok terminals.Comma k ∷ [])
  elements_more : (k : Spot) {t : Syntax} {x : List Leaf} → Spells Assign (one t) x →
      {a : List Spot} {ts : Forest} {y : List Leaf} → Spells Elements (list a ts) y →
      Spells Elements (list (k ∷ a) (more t ts)) (tok terminals.Comma k ∷ (x ++ y))
  -- block = "{" { declare | statement } "}"
  block : (o : Spot) {a : List Spot} {ts : Forest} {x : List Leaf} → Spells (Many (Just Line)) (list a ts) x →
      (c : Spot) → Spells Block (one (block_node o ts c)) (tok terminals.OpenBrace o ∷
      (x ++ (tok terminals.CloseBrace c ∷ [])))
  line_declare : {t : Syntax} {x : List Leaf} → Spells Declare (one t) x → Spells Line (one t) x
  line_statement : {t : Syntax} {x : List Leaf} → Spells Statement (one t) x → Spells Line (one t) x
  -- statement = block | simple | if | while | do | for | switch | case | default | break | continue | return
  statement_block : {t : Syntax} {x : List Leaf} → Spells Block (one t) x → Spells Statement (one t) x
  statement_simple : {t : Syntax} {x : List Leaf} → Spells Simple (one t) x → Spells Statement (one t) x
  -- simple = [ expr ] ";"
  simple : {ts : Forest} {x : List Leaf} → Spells (Maybe Expr) (list [] ts) x → (s : Spot) →
      Spells Simple (one (simple_node ts s)) (x ++ (tok terminals.Semicolon s ∷ []))
  -- if = "if" "(" expr ")" statement [ "else" statement ], the else belonging to the nearest if that may take it
  if_short : (i o : Spot) {e : Syntax} {x : List Leaf} → Spells Expr (one e) x →
      (c : Spot) {s : Syntax} {y : List Leaf} → Spells Statement (one s) y →
      Spells Statement (one (if_node i o e c s)) (tok terminals.If i ∷ tok terminals.Open o ∷
      (x ++ (tok terminals.Close c ∷ y)))
  if_long : (i o : Spot) {e : Syntax} {x : List Leaf} → Spells Expr (one e) x →
      (c : Spot) {s : Syntax} {y : List Leaf} → Spells Statement (one s) y → closed s ≡ true →
      (k : Spot) {u : Syntax} {z : List Leaf} → Spells Statement (one u) z
      → Spells Statement (one (if_else_node i o e c s k u)) (tok terminals.If i ∷ tok terminals.Open o ∷
      (x ++ (tok terminals.Close c ∷ (y ++ (tok terminals.Else k ∷ z)))))
  -- while = "while" "(" expr ")" statement
  while : (w o : Spot) {e : Syntax} {x : List Leaf} → Spells Expr (one e) x →
      (c : Spot) {s : Syntax} {y : List Leaf} → Spells Statement (one s) y →
      Spells Statement (one (while_node w o e c s)) (tok terminals.While w ∷ tok terminals.Open o ∷
      (x ++ (tok terminals.Close c ∷ y)))
  -- do = "do" statement "while" "(" expr ")" ";"
  do_while : (d : Spot) {s : Syntax} {x : List Leaf} → Spells Statement (one s) x →
      (w o : Spot) {e : Syntax} {y : List Leaf} → Spells Expr (one e) y → (c m : Spot) →
      Spells Statement (one (do_node d s w o e c m)) (tok terminals.Do d ∷
      (x ++ (tok terminals.While w ∷ tok terminals.Open o ∷
      (y ++ (tok terminals.Close c ∷ tok terminals.Semicolon m ∷ [])))))
  -- for = "for" "(" ( declare | simple ) [ expr ] ";" [ expr ] ")" statement
  for : (f o : Spot) {d : Syntax} {x : List Leaf} → Spells Start (one d) x → {ts : Forest} {y : List Leaf} →
      Spells (Maybe Expr) (list [] ts) y → (s : Spot) → {us : Forest} {z : List Leaf} →
      Spells (Maybe Expr) (list [] us) z → (c : Spot) → {b : Syntax} {w : List Leaf} → Spells Statement (one b) w
      → Spells Statement (one (for_node f o d ts s us c b)) (tok terminals.For f ∷ tok terminals.Open o ∷
      (x ++ (y ++ (tok terminals.Semicolon s ∷ (z ++ (tok terminals.Close c ∷ w))))))
  start_declare : {t : Syntax} {x : List Leaf} → Spells Declare (one t) x → Spells Start (one t) x
  start_simple : {t : Syntax} {x : List Leaf} → Spells Simple (one t) x → Spells Start (one t) x
  -- switch = "switch" "(" expr ")" "{" { statement } "}"
  switch : (w o : Spot) {e : Syntax} {x : List Leaf} → Spells Expr (one e) x →
      (c b : Spot) {a : List Spot} {ts : Forest} {y : List Leaf} → Spells (Many (Just Statement)) (list a ts) y →
      (d : Spot) → Spells Statement (one (switch_node w o e c b ts d)) (tok terminals.Switch w ∷
      tok terminals.Open o ∷ (x ++ (tok terminals.Close c ∷ tok terminals.OpenBrace b ∷
      (y ++ (tok terminals.CloseBrace d ∷ [])))))
  -- case = "case" cond ":" statement
  case : (w : Spot) {e : Syntax} {x : List Leaf} → Spells Cond (one e) x → (c : Spot) {s : Syntax} {y : List Leaf} →
      Spells Statement (one s) y → Spells Statement (one (case_node w e c s)) (tok terminals.Case w ∷
      (x ++ (tok terminals.Colon c ∷ y)))
  -- default = "default" ":" statement
  default : (w c : Spot) {s : Syntax} {y : List Leaf} → Spells Statement (one s) y →
      Spells Statement (one (default_node w c s)) (tok terminals.Default w ∷ tok terminals.Colon c ∷ y)
  -- break = "break" ";"
  break : (w s : Spot) → Spells Statement (one (leave_node forms.BreakNode w none s)) (tok terminals.Break w ∷
      tok terminals.Semicolon s ∷ [])
  -- continue = "continue" ";"
  continue : (w s : Spot) → Spells Statement (one (leave_node forms.ContinueNode w none s))
      (tok terminals.Continue w ∷ tok terminals.Semicolon s ∷ [])
  -- return = "return" [ expr ] ";"
  return : (w : Spot) {ts : Forest} {x : List Leaf} → Spells (Maybe Expr) (list [] ts) x → (s : Spot) →
      Spells Statement (one (leave_node forms.ReturnNode w ts s)) (tok terminals.Return w ∷
      (x ++ (tok terminals.Semicolon s ∷ [])))
  -- expr = assign { "," assign }, nested to the left
  expr_assign : {t : Syntax} {x : List Leaf} → Spells Assign (one t) x → Spells Expr (one t) x
  expr : {l : Syntax} {x : List Leaf} → Spells Expr (one l) x → (m : Spot) {r : Syntax} {y : List Leaf} →
      Spells Assign (one r) y → Spells Expr (one (pair_node forms.ExprNode l m r)) (x ++ (tok terminals.Comma m ∷ y))
  -- assign = cond | unary assignop assign
  assign_cond : {t : Syntax} {x : List Leaf} → Spells Cond (one t) x → Spells Assign (one t) x
  assign : {l : Syntax} {x : List Leaf} → Spells Unary (one l) x → (j : Terminal) (m : Spot) → assigns j ≡ true →
      {r : Syntax} {y : List Leaf} → Spells Assign (one r) y →
      Spells Assign (one (pair_node forms.AssignNode l m r)) (x ++ (tok j m ∷ y))
  -- cond = or [ "?" expr ":" cond ], where or is the tenth level
  cond_level : {t : Syntax} {x : List Leaf} → Spells (Level 10) (one t) x → Spells Cond (one t) x
  cond : {t : Syntax} {x : List Leaf} → Spells (Level 10) (one t) x → (q : Spot) {a : Syntax} {y : List Leaf} →
      Spells Expr (one a) y → (c : Spot) {b : Syntax} {z : List Leaf} → Spells Cond (one b) z →
      Spells Cond (one (cond_node t q a c b)) (x ++ (tok terminals.Question q ∷ (y ++ (tok terminals.Colon c ∷ z))))
  -- or, and, bor, bxor, band, equal, order, shift, sum, term: level k + 1 = level k { operator level k }, nested to
  -- the left
  level_cast : {t : Syntax} {x : List Leaf} → Spells Cast (one t) x → Spells (Level zero) (one t) x
  level_next : {k : ℕ} {t : Syntax} {x : List Leaf} → Spells (Level k) (one t) x → Spells (Level (suc k)) (one t) x
  level : {k : ℕ} {l : Syntax} {x : List Leaf} → Spells (Level (suc k)) (one l) x → (j : Terminal) (m : Spot) →
      joins k j ≡ true → {r : Syntax} {y : List Leaf} → Spells (Level k) (one r) y →
      Spells (Level (suc k)) (one (pair_node (form_of k) l m r)) (x ++ (tok j m ∷ y))
  -- cast = "(" type ")" cast | unary
  cast_unary : {t : Syntax} {x : List Leaf} → Spells Unary (one t) x → Spells Cast (one t) x
  cast : (o : Spot) {t : Syntax} {x : List Leaf} → Spells TypeName (one t) x →
      (c : Spot) {e : Syntax} {y : List Leaf} → Spells Cast (one e) y →
      Spells Cast (one (cast_node o t c e)) (tok terminals.Open o ∷ (x ++ (tok terminals.Close c ∷ y)))
  -- unary = ( "++" | "--" ) unary | ( "+" | "-" | "~" | "!" | "&" | "*" ) cast | "sizeof" "(" type ")" | postfix
  unary_postfix : {t : Syntax} {x : List Leaf} → Spells Postfix (one t) x → Spells Unary (one t) x
  unary_step : (m : Spot) {t : Syntax} {x : List Leaf} → Spells Unary (one t) x →
      Spells Unary (one (prefix_node m t)) (tok terminals.Step m ∷ x)
  unary_prefix : (j : Terminal) (m : Spot) → prefixes j ≡ true → {t : Syntax} {x : List Leaf} →
      Spells Cast (one t) x → Spells Unary (one (prefix_node m t)) (tok j m ∷ x)
  unary_sizeof : (w o : Spot) {t : Syntax} {x : List Leaf} → Spells TypeName (one t) x → (c : Spot) →
      Spells Unary (one (sizeof_node w o t c)) (tok terminals.Sizeof w ∷ tok terminals.Open o ∷
      (x ++ (tok terminals.Close c ∷ [])))
  -- postfix = primary { "[" expr "]" | "++" | "--" | "." name }, nested to the left
  postfix_primary : {t : Syntax} {x : List Leaf} → Spells Primary (one t) x → Spells Postfix (one t) x
  index : {l : Syntax} {x : List Leaf} → Spells Postfix (one l) x → (o : Spot) {e : Syntax} {y : List Leaf} →
      Spells Expr (one e) y → (c : Spot) →
      Spells Postfix (one (index_node l o e c))
      (x ++ (tok terminals.OpenBracket o ∷ (y ++ (tok terminals.CloseBracket c ∷ []))))
  step : {l : Syntax} {x : List Leaf} → Spells Postfix (one l) x → (m : Spot) →
      Spells Postfix (one (step_node l m)) (x ++ (tok terminals.Step m ∷ []))
  selection : {l : Syntax} {x : List Leaf} → Spells Postfix (one l) x → (d n : Spot) →
      Spells Postfix (one (selection_node l d n)) (x ++ (tok terminals.Point d ∷ tok terminals.Name n ∷ []))
  -- primary = number | truth | variable | call | paren
  number : (n : Spot) → Spells Primary (one (word_node forms.NumberNode n)) (tok terminals.Number n ∷ [])
  truth : (n : Spot) → Spells Primary (one (word_node forms.TruthNode n)) (tok terminals.Truth n ∷ [])
  variable : (n : Spot) → Spells Primary (one (word_node forms.VariableNode n)) (tok terminals.Name n ∷ [])
  -- call = name "(" [ assign { "," assign } ] ")"
  call_none : (n o c : Spot) → Spells Primary (one (call_node n o [] none c)) (tok terminals.Name n ∷
      tok terminals.Open o ∷ tok terminals.Close c ∷ [])
  call : (n o : Spot) {t : Syntax} {x : List Leaf} → Spells Assign (one t) x →
      {a : List Spot} {ts : Forest} {y : List Leaf} → Spells (Many (Comma Assign)) (list a ts) y → (c : Spot) →
      Spells Primary (one (call_node n o a (more t ts) c)) (tok terminals.Name n ∷ tok terminals.Open o ∷
      (x ++ (y ++ (tok terminals.Close c ∷ []))))
  -- paren = "(" expr ")"
  paren : (o : Spot) {t : Syntax} {x : List Leaf} → Spells Expr (one t) x → (c : Spot) →
      Spells Primary (one (paren_node o t c)) (tok terminals.Open o ∷ (x ++ (tok terminals.Close c ∷ [])))

-- The tokens spell this unit, the first of them numbered 0.
abbrev pub SpellsUnit : Syntax → List Token → Type 0
SpellsUnit t tokens = Spells Source (one t) (leaves_of 0 tokens)
