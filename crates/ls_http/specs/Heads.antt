-- How a head is answered: with the first status of a table, or with what it asks for (this project's profile; the
-- statuses are those of RFC 9110, section 15.5).
use Rattle.std.specs.Prelude.{ℕ, List, [], ◌∷◌, map, Bool, true, false, ◌||◌, not, nat_lt, codes, Option, None, Some, Result}
use Rattle.std.specs.Prelude.{if◌then◌else◌}
use Rattle.std.specs.declared.result.Result.TheVariants.{Ok, Err}
use Rattle.std.specs.Str.{bytes_eq}
use Rattle.httparse.specs.Grammar.{RequestHead}
use Rattle.httparse.specs.Spans.{name_and_value}
use Rattle.ls_http.specs.declared.head.TheConstants.{LONGEST_BODY}
use Rattle.ls_http.specs.declared.head.Head.{Head}
use Rattle.ls_http.specs.declared.head.Head.TheVariants as head
use Rattle.ls_http.specs.declared.head.HeadRefused.{HeadRefused}
use Rattle.ls_http.specs.declared.head.HeadRefused.TheVariants.{Status}
use Rattle.ls_http.specs.declared.target.Asked.{Asked}
use Rattle.ls_http.specs.declared.target.Asked.TheVariants.{Upgrade, Request, Nothing}
use Rattle.ls_http.specs.declared.target.Named.{Named}
use Rattle.ls_http.specs.Fields.{FieldPair, key_of, asks_upgrade, body_length}
use Rattle.ls_http.specs.Targets.{path_of, query_of, asked_of, name_of, says_version}

-- what of a head decides how it is answered
pub record Asking : Type 0 where
  pub asked : Asked
  pub method : List ℕ
  pub query : List ℕ
  pub fields : List FieldPair

-- what a head of the grammar asks for
abbrev pub asking_of : RequestHead → Asking
asking_of h = record {
  asked = asked_of (path_of h.target);
  method = h.method;
  query = query_of h.target;
  fields = map name_and_value h.fields;
}

-- whether a path asks for nothing
abbrev pub is_nothing : Asked → Bool
is_nothing Nothing = true
is_nothing Upgrade = false
is_nothing (Request name) = false

-- the method that each path needs
abbrev pub method_for : Asked → List ℕ
method_for Upgrade = codes "GET"
method_for (Request name) = codes "POST"
method_for Nothing = []

-- whether an option has nothing
abbrev pub lacks : {A : Type 0} → Option A → Bool
lacks None = true
lacks (Some a) = false

-- whether a field that is needed isn't there
abbrev pub lacks_field : Asked → List FieldPair → Bool
lacks_field Upgrade fields = not (asks_upgrade fields) || lacks (key_of fields)
lacks_field (Request name) fields = lacks (body_length fields)
lacks_field Nothing fields = false

-- a length, or 0 where there is none
abbrev pub or_zero : Option ℕ → ℕ
or_zero None = 0
or_zero (Some n) = n

-- whether the body is too long
abbrev pub is_too_long : Asked → List FieldPair → Bool
is_too_long Upgrade fields = false
is_too_long (Request name) fields = nat_lt LONGEST_BODY (or_zero (body_length fields))
is_too_long Nothing fields = false

-- the statuses that refuse a head, in their order, and when each does
abbrev pub statuses : Asking → List (ℕ × Bool)
statuses a =
    (404, is_nothing a.asked)
    ∷ (405, not (bytes_eq a.method (method_for a.asked)))
    ∷ (400, lacks_field a.asked a.fields)
    ∷ (413, is_too_long a.asked a.fields)
    ∷ []

-- the first status that refuses
abbrev pub first_status : List (ℕ × Bool) → Option ℕ
first_status [] = None
first_status (row ∷ rows) = if row.1 then Some row.0 else first_status rows

-- a key, or nothing where there is none
abbrev pub or_empty : Option (List ℕ) → List ℕ
or_empty None = []
or_empty (Some text) = text

-- a request's head
abbrev pub post_of : Named → List ℕ → ℕ → Head
post_of name query length = head.Post (name_of name) (says_version query) length

-- the bytes of the body that follows a head
abbrev pub body_of : Head → ℕ
body_of (head.Post name version length) = length
body_of (head.Upgrade key) = 0

-- what a head that isn't refused asks for
abbrev pub head_by : Asked → List ℕ → List FieldPair → Head
head_by Upgrade query fields = head.Upgrade (or_empty (key_of fields))
head_by (Request name) query fields = post_of name query (or_zero (body_length fields))
head_by Nothing query fields = head.Upgrade []

-- the head, where no status refuses it
abbrev pub unless_refused : Option ℕ → Head → Result Head HeadRefused
unless_refused None made = Ok made
unless_refused (Some status) made = Err (Status status)

-- how a head is answered
abbrev pub answer_of : Asking → Result Head HeadRefused
answer_of a = unless_refused (first_status (statuses a)) (head_by a.asked a.query a.fields)
