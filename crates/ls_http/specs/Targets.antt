-- What a request's target asks for, and which version of the protocol it names (TLCP 2.1; the paths are those of
-- Lightstreamer servers).
use Rattle.std.specs.Prelude.{ℕ, List, [], Bool, false, codes, Option, None, Some, if◌then◌else◌}
use Rattle.std.specs.Str.{bytes_eq}
use Rattle.ls_words.specs.Words.{Halves, split_once}
use Rattle.ls_form.specs.declared.form.Pair.{Pair}
use Rattle.ls_form.specs.Forms.{form_of, text_under}
use Rattle.ls_http.specs.declared.target.Asked.{Asked}
use Rattle.ls_http.specs.declared.target.Asked.TheVariants.{Upgrade, Request, Nothing}
use Rattle.ls_http.specs.declared.target.Named.{Named}
use Rattle.ls_http.specs.declared.target.Named.TheVariants.{CreateSession, BindSession, Control}

-- the path of a target, and its query, which is empty where there is none
abbrev pub path_in : List ℕ → Option Halves → List ℕ
path_in target None = target
path_in target (Some halves) = halves.front

abbrev pub query_in : Option Halves → List ℕ
query_in None = []
query_in (Some halves) = halves.back

abbrev pub path_of : List ℕ → List ℕ
path_of target = path_in target (split_once 63 target)

abbrev pub query_of : List ℕ → List ℕ
query_of target = query_in (split_once 63 target)

-- what a path asks for
abbrev pub asked_of : List ℕ → Asked
asked_of path =
    if bytes_eq path (codes "/lightstreamer") then Upgrade
    else if bytes_eq path (codes "/lightstreamer/create_session.txt") then Request CreateSession
    else if bytes_eq path (codes "/lightstreamer/bind_session.txt") then Request BindSession
    else if bytes_eq path (codes "/lightstreamer/control.txt") then Request Control
    else Nothing

-- the name of a request
abbrev pub name_of : Named → List ℕ
name_of CreateSession = codes "create_session"
name_of BindSession = codes "bind_session"
name_of Control = codes "control"

-- whether a text is the protocol's version
abbrev pub is_version : Option (List ℕ) → Bool
is_version None = false
is_version (Some text) = bytes_eq text (codes "TLCP-2.1.0")

-- whether these pairs name the protocol's version
abbrev pub have_version : Option (List Pair) → Bool
have_version None = false
have_version (Some pairs) = is_version (text_under pairs (codes "LS_protocol"))

-- whether a query is a form text, in which no name stands twice, and names the protocol's version
abbrev pub says_version : List ℕ → Bool
says_version query = have_version (form_of query)
