-- What came in whole (RFC 9112, sections 2 to 6; RFC 6455, section 4.2.1).
use Rattle.std.specs.Prelude.{◌≤◌, ◌+◌, ℕ, List, length}
use Rattle.ls_http.specs.declared.head.Head.TheVariants as head
use Rattle.ls_conn_http.specs.declared.intake.Came.{Came}
use Rattle.ls_conn_http.specs.declared.intake.Came.TheVariants as came
use Rattle.ls_conn_http.specs.Reading.{BeginsWith, HasHead}

-- it stands in the bytes that were read
abbrev pub HasCome : List ℕ → Came → Type 0
HasCome read (came.Post post) =
    HasHead read post.name post.version post.start post.length × (post.start + post.length ≤ length read)
HasCome read (came.Upgrade key start) = BeginsWith read (head.Upgrade key) start × (start ≤ length read)
