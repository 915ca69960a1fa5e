-- The check of real sentences, as a document asks for it.
use Rattle.std.specs.Prelude.{ℕ, List, [], ◌∷◌, map, reverse, Bool, true, false, if◌then◌else◌, Option, Some, None, Result, Ok, Err}
use Rattle.serapi_cmd.specs.declared.command.QueryKind.{QueryKind}
use Rattle.serapi_cmd.specs.declared.command.QueryKind.TheVariants.{Goals, Ast, Env, Definition}
use Rattle.vern_sentence.specs.Trees as made
use Rattle.vern_step.specs.Parsed.{parsed, kind_of}
use Rattle.env_theory.specs.Declarations.{Declaration, find}
use Rattle.script_theory.specs.Sentences.{Script}
use Rattle.script_theory.specs.Sentences as script
use Rattle.doc_theory.specs.Documents.{Closer, qed, admitted, defined, abort, Kind, plain, begin, inner, close, Sentence}
use Rattle.doc_theory.specs.Checks.{Verdict, good, wrong, Found, texts, unknown_name, Checked, Check}
use Rattle.check_theory.specs.Pieces.{place_in_proofs, pieces_of}
use Rattle.step_theory.specs.Texts.{verdict_text, declared_names, declaration_text, goals_text}

-- ---- the tree of a document's sentence

-- two closers are the same
abbrev pub is_closer : Closer → Closer → Bool
is_closer qed qed = true
is_closer admitted admitted = true
is_closer defined defined = true
is_closer abort abort = true
is_closer c k = false

-- two kinds are the same
abbrev pub is_kind : Kind → Kind → Bool
is_kind plain plain = true
is_kind begin begin = true
is_kind inner inner = true
is_kind (close c) (close k) = is_closer c k
is_kind k j = false

-- the tree, where it stands as this kind says
abbrev pub tree_as : Kind → Result made.Sentence ℕ → Option made.Sentence
tree_as k (Ok t) = if is_kind k (place_in_proofs (kind_of t)) then Some t else None
tree_as k (Err p) = None

-- the tree of a sentence's bytes, where it stands as the sentence's kind says; a sentence that was cut from a text has it
abbrev pub tree_of : Sentence → Option made.Sentence
tree_of x = tree_as x.kind (parsed x.text)

-- ---- what a sentence is given and leaves

-- how a proof is closed, as it is read
abbrev pub closer_read : Closer → made.Closer
closer_read qed = made.qed
closer_read admitted = made.admitted
closer_read defined = made.defined
closer_read abort = made.abort

-- what a closer leaves of an open proof, whatever stands inside
abbrev pub skip : Script → Closer → Script
skip s c = script.skip s (closer_read c)

-- a verdict that isn't good has its text
abbrev pub told : script.Verdict → Verdict
told script.good = good
told (script.faulty e) = wrong (verdict_text (script.faulty e))
told (script.blocked id) = wrong (verdict_text (script.blocked id))
told script.misplaced = wrong (verdict_text script.misplaced)

-- the verdict that is told, and the state
abbrev pub checked : Script × script.Verdict → Checked Script
checked r = record { verdict = told r.1; state = r.0 }

-- what a sentence without such a tree leaves: a closer what `skip` says, any other the state as it is
abbrev pub passed : Script → Kind → Script
passed s (close c) = skip s c
passed s k = s

-- a sentence is checked by its tree; without one, which no document has, nothing is said against it
abbrev pub one_by : Script → ℕ → Kind → Option made.Sentence → Checked Script
one_by s i k (Some t) = checked (script.one s i t)
one_by s i k None = record { verdict = good; state = passed s k }

-- what a sentence is given in a state, and what it leaves
abbrev pub one : Script → ℕ → Sentence → Checked Script
one s i x = one_by s i x.kind (tree_of x)

-- ---- what a state tells

-- the text of a declaration, where the names of its environment are taken
abbrev pub text_in : List Declaration → Declaration → List ℕ
text_in E d = declaration_text (declared_names E) d

-- the goals, if there are any to tell
abbrev pub goals_found : Option (List ℕ) → Found
goals_found (Some t) = texts (t ∷ [])
goals_found None = texts []

-- the declaration, if it was found
abbrev pub declaration_found : List Declaration → List ℕ → Option Declaration → Found
declaration_found E n (Some d) = texts (text_in E d ∷ [])
declaration_found E n None = unknown_name n

-- the focused goals; each declaration, the oldest first; the declaration with a name. A document tells a sentence's bytes by itself
abbrev pub ask : Script → QueryKind → Found
ask s Goals = goals_found (goals_text s)
ask s Ast = texts []
ask s Env = texts (map (text_in s.env) (reverse s.env))
ask s (Definition n) = declaration_found s.env n (find s.env n)

-- ---- the check

-- the check of sentences that a document has with the real language
abbrev pub language : Check Script
language = record { pieces = pieces_of; start = script.empty; one = one; skip = skip; ask = ask }
