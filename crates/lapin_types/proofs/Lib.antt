mod CallAlike
