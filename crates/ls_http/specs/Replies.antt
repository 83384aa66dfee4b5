-- The heads of replies (RFC 9112, section 4; RFC 6455, section 4.2.2).
use Rattle.std.specs.Prelude.{ℕ, ◌==◌, List, [], ◌∷◌, ◌++◌, codes, if◌then◌else◌}
use Rattle.std.specs.Fmt.{decimal}

-- the lines of a head, each with its CR LF, and the empty line that ends it
abbrev pub head_text : List (List ℕ) → List ℕ
head_text [] = 13 ∷ 10 ∷ []
head_text (line ∷ lines) = line ++ 13 ∷ 10 ∷ head_text lines

-- the reason of a status that refuses; other statuses have none
abbrev pub reason_of : ℕ → List ℕ
reason_of status =
    if status == 400 then codes "Bad Request"
    else if status == 404 then codes "Not Found"
    else if status == 405 then codes "Method Not Allowed"
    else if status == 413 then codes "Content Too Large"
    else if status == 503 then codes "Service Unavailable"
    else []

-- a refusal, whole
abbrev pub refusal_text : ℕ → List ℕ
refusal_text status = head_text (
    (codes "HTTP/1.1 " ++ (decimal status ++ 32 ∷ reason_of status))
    ∷ codes "Content-Length: 0"
    ∷ codes "Connection: close"
    ∷ [])

-- the head of an answer with a body of so many bytes
abbrev pub answer_head : ℕ → List ℕ
answer_head length = head_text (
    codes "HTTP/1.1 200 OK"
    ∷ codes "Content-Type: text/plain; charset=utf-8"
    ∷ codes "Cache-Control: no-store"
    ∷ (codes "Content-Length: " ++ decimal length)
    ∷ codes "Connection: close"
    ∷ [])

-- the head of a stream, whose body ends with the connection
abbrev pub stream_head : List ℕ
stream_head = head_text (
    codes "HTTP/1.1 200 OK"
    ∷ codes "Content-Type: text/plain; charset=utf-8"
    ∷ codes "Cache-Control: no-store"
    ∷ codes "Connection: close"
    ∷ [])

-- the reply to a handshake, for its accept value
abbrev pub upgrade_text : List ℕ → List ℕ
upgrade_text accept = head_text (
    codes "HTTP/1.1 101 Switching Protocols"
    ∷ codes "Upgrade: websocket"
    ∷ codes "Connection: Upgrade"
    ∷ (codes "Sec-WebSocket-Accept: " ++ accept)
    ∷ codes "Sec-WebSocket-Protocol: TLCP-2.1.0.lightstreamer.com"
    ∷ [])
