-- What a call that reads a head answers: by the grammar of `httparse` (RFC 9112, sections 2 to 5), in the first
-- `LONGEST_HEAD` bytes, with at most `MOST_FIELDS` field lines.
use Rattle.std.specs.Prelude.{◌≡◌, ℕ, ◌<◌, ◌≤◌, ◌⊎◌, List, length, take, drop, Option, None, Some, Result, ⊤}
use Rattle.std.specs.declared.result.Result.TheVariants.{Ok, Err}
use Rattle.httparse.specs.declared.spans.HeaderSpan.{HeaderSpan}
use Rattle.httparse.specs.Grammar.{RequestHead, print_request, ReadsRequest, HasNoRequest, MayBecomeRequest}
use Rattle.httparse.specs.Spans.{IsRequestAt, IsRequestOf, IsRequestWithin, RequestOverflows}
use Rattle.ls_http.specs.declared.head.TheConstants.{LONGEST_HEAD, MOST_FIELDS}
use Rattle.ls_http.specs.declared.head.Head.{Head}
use Rattle.ls_http.specs.declared.head.HeadRefused.{HeadRefused}
use Rattle.ls_http.specs.declared.head.HeadRefused.TheVariants.{Status, NoMemory}
use Rattle.ls_http.specs.declared.look.Found.{Found}
use Rattle.ls_http.specs.declared.look.Found.TheVariants.{Whole, Waiting, Bad}
use Rattle.ls_http.specs.Heads.{asking_of, answer_of}

-- the bytes in which a head is looked for
abbrev pub front : List ℕ → List ℕ
front bytes = take LONGEST_HEAD bytes

-- the head stands at the front, and has few enough field lines
pub record IsHeadAt (bytes : List ℕ) (h : RequestHead) (rest : List ℕ) : Type 0 where
  pub reads : ReadsRequest (front bytes) h rest
  pub few : length h.fields ≤ MOST_FIELDS

-- no whole head is there and more bytes are taken: some that follow make one, or these end inside the target
abbrev pub IsWaiting : List ℕ → Type 0
IsWaiting bytes = (length bytes < LONGEST_HEAD) × HasNoRequest bytes × MayBecomeRequest bytes

-- the first `LONGEST_HEAD` bytes hold no head, or each head that these bytes may still become has too many field lines
abbrev pub IsBad : List ℕ → Type 0
IsBad bytes = ((LONGEST_HEAD ≤ length bytes) × HasNoRequest (front bytes)) ⊎ RequestOverflows MOST_FIELDS bytes

-- what is answered of a head that was read, with its length
abbrev pub with_length : ℕ → Result Head HeadRefused → Result (Head × ℕ) HeadRefused
with_length n (Ok head) = Ok (head, n)
with_length n (Err refused) = Err refused

abbrev pub reply_to : RequestHead → Result (Head × ℕ) HeadRefused
reply_to h = with_length (length (print_request h)) (answer_of (asking_of h))

-- the same, beside other answers
abbrev pub some_head : Result (Head × ℕ) HeadRefused → Result (Option (Head × ℕ)) HeadRefused
some_head (Ok found) = Ok (Some found)
some_head (Err refused) = Err refused

-- an answer is this one, unless memory was refused
abbrev pub UnlessNoMemory : {A : Type 0} → Result A HeadRefused → Result A HeadRefused → Type 0
UnlessNoMemory result answer = (result ≡ Err NoMemory) ⊎ (result ≡ answer)

-- nothing was found yet; or a head, as long as the grammar prints it
abbrev pub IsFound : List ℕ → Option (Head × ℕ) → Type 0
IsFound bytes None = IsWaiting bytes
IsFound bytes (Some found) =
    (h : RequestHead) × IsHeadAt bytes h (drop found.1 (front bytes)) × (reply_to h ≡ Ok found)

-- a status is 400 for the head's form, or the one that the table gives for the head
abbrev pub IsRefused : List ℕ → HeadRefused → Type 0
IsRefused bytes (Status status) =
    ((status ≡ 400) × IsBad bytes)
    ⊎ ((h : RequestHead) × (rest : List ℕ) × IsHeadAt bytes h rest × (reply_to h ≡ Err (Status status)))
IsRefused bytes NoMemory = ⊤

-- what was found by places: it is this head
abbrev pub IsWhole : List ℕ → List HeaderSpan → Found → RequestHead → Type 0
IsWhole bytes headers (Whole spans) h = IsRequestAt (front bytes) headers spans h
IsWhole bytes headers Waiting h = ⊥
IsWhole bytes headers Bad h = ⊥

-- what was found says what is there
abbrev pub Says : List ℕ → List HeaderSpan → Found → Type 0
Says bytes headers (Whole spans) =
    IsRequestOf (front bytes) headers spans × IsRequestWithin (front bytes) headers spans
Says bytes headers Waiting = IsWaiting bytes
Says bytes headers Bad = IsBad bytes
